-- The text up to a NUL, from what a search for the NUL answers.
use Rattle.std.proofs.Common.{◌≡◌, ℕ, zero, suc, ◌-◌, ◌<◌, ◌==◌, List, [], ◌∷◌, length, take, drop}
use Rattle.std.proofs.Common.{get_or, false, Option, None, Some, refl, arith}
use Rattle.std.proofs.lemmas.Bool.{eq-eqb, ne_eqb, eqb-true}
use Rattle.std.proofs.lemmas.List.{drop_all, take_all, length-drop}
use Rattle.memchr.specs.Find.{IsFirstByte, is_byte}
use Rattle.dw_base.specs.Texts.{text_from, text_of}

pub text_found : (xs : List ℕ) (i : ℕ) → i < length xs → get_or xs i 0 ≡ 0
    → ((k : ℕ) → k < i → get_or xs k 0 ≡ 0 → ⊥) → text_from xs ≡ Some (take i xs)
unfolding text_from
text_found [] i lt is before = absurd (omega arith)
text_found (x ∷ xs) zero lt is before = rw (eq-eqb x 0 is) refl
text_found (x ∷ xs) (suc i) lt is before =
    let t : (x == 0) ≡ false = ne_eqb x 0 (before 0 (omega arith)) in
    rw (
      t,
      text_found xs i (omega arith) is (λ (k : ℕ) (l : k < i). before (suc k) (omega arith)),
    ) refl

pub text_cut : (xs : List ℕ) → ((k : ℕ) → k < length xs → get_or xs k 0 ≡ 0 → ⊥) → text_from xs ≡ None
unfolding text_from
text_cut [] before = refl
text_cut (x ∷ xs) before =
    let t : (x == 0) ≡ false = ne_eqb x 0 (before 0 (omega arith)) in
    rw (t, text_cut xs (λ (k : ℕ) (l : k < length xs). before (suc k) (omega arith))) refl

-- all bytes from a place on
pub rest_whole : (bytes : List ℕ) (at : ℕ)
    → take (length bytes - at) (drop at bytes) ≡ drop at bytes
rest_whole bytes at =
    take_all (length bytes - at) (drop at bytes) (omega (arith, length-drop at bytes))

-- no NUL was found
pub text_missing : (bytes rest : List ℕ) (at : ℕ) (found : Option ℕ) → rest ≡ drop at bytes
    → IsFirstByte (is_byte 0) rest found → found ≡ None → text_of bytes at ≡ None
unfolding text_of
text_missing bytes rest at (Some end) e first is = absurd (cc)
text_missing bytes rest at None e first is =
    rw (← e) (text_cut rest (λ (k : ℕ) (lt : k < length rest) (zero : get_or rest k 0 ≡ 0).
    first k (omega arith) lt (eq-eqb (get_or rest k 0) 0 zero)))

-- the first NUL was found
pub text_there : (bytes rest : List ℕ) (at end : ℕ) (found : Option ℕ) → rest ≡ drop at bytes
    → IsFirstByte (is_byte 0) rest found → found ≡ Some end
    → text_of bytes at ≡ Some (take end rest)
unfolding text_of
text_there bytes rest at end None e first is = absurd (cc)
text_there bytes rest at end (Some k) e first is =
    let same : k ≡ end = cc in
    rw (← e, ← same) (text_found rest k first.0.high (eqb-true (get_or rest k 0) 0 first.1)
    (λ (j : ℕ) (lt : j < k) (zero : get_or rest j 0 ≡ 0).
    first.0.before j (omega arith) lt (eq-eqb (get_or rest j 0) 0 zero)))

-- the place is past the end
pub text_past : (bytes : List ℕ) (at : ℕ) → length bytes < at → text_of bytes at ≡ None
unfolding text_of text_from
text_past bytes at past = rw (drop_all at bytes (omega arith)) refl
