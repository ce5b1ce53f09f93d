-- Digests of names: of bytes before others, and of the end of a text.
use Rattle.std.proofs.Common.{◌≡◌, ℕ, ◌+◌, ◌*◌, ◌%◌, ◌^◌, ◌<◌, List, [], ◌∷◌, ◌++◌}
use Rattle.std.proofs.Common.{length, drop, get_or, refl, sym, ap, ◌∙◌, arith}
use Rattle.std.proofs.lemmas.List.{drop_all, drop_more}
use Rattle.dw_base.specs.Names.{digest_before}

abbrev stepped : ℕ → ℕ → ℕ
stepped rest b = (rest * 1099511628211 % 2 ^ 64 + b) % 2 ^ 64

pub digest_none : (rest : ℕ) (xs : List ℕ) → rest ≡ digest_before rest (drop (length xs) xs)
unfolding digest_before
digest_none rest xs = rw (drop_all (length xs) xs (omega arith)) refl

pub digest_more : (rest : ℕ) (xs : List ℕ) (at d b : ℕ) → at < length xs
    → d ≡ digest_before rest (drop (at + 1) xs) → b ≡ get_or xs at 0
    → (d * 1099511628211 % 2 ^ 64 + b) % 2 ^ 64 ≡ digest_before rest (drop at xs)
unfolding digest_before
digest_more rest xs at d b lt e is =
    ap (λ n. stepped n b) e
    ∙ ap (λ n. stepped (digest_before rest (drop (at + 1) xs)) n) is
    ∙ sym (ap (digest_before rest) (drop_more xs at 0 lt))

-- the digest of joined bytes
pub digest_joined : (xs ys : List ℕ) (rest : ℕ)
    → digest_before rest (xs ++ ys) ≡ digest_before (digest_before rest ys) xs
unfolding digest_before
digest_joined [] ys rest = refl
digest_joined (x ∷ xs) ys rest = ap (λ n. stepped n x) (digest_joined xs ys rest)
