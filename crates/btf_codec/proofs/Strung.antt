-- Texts of two string sections, one behind the other.
use Rattle.std.proofs.Common.{◌≡◌, ℕ, suc, ◌+◌, ◌-◌, ◌<◌, ◌≤◌, ◌==◌, Bool, true, false, List, []}
use Rattle.std.proofs.Common.{◌∷◌, ◌++◌, length, drop, get_or, Option, Some, if◌then◌else◌, refl}
use Rattle.std.proofs.Common.{sym, ap, subst, ◌∙◌, arith}
use Rattle.std.specs.Option.{option_map}
use Rattle.std.proofs.lemmas.Bool.{eqb-false}
use Rattle.std.proofs.lemmas.List.{drop_at, drop-drop, get_or-drop, length-drop}
use Rattle.dw_base.specs.Texts.{text_from, text_of}
use Rattle.btf_strings.proofs.Texts.{text_of_more}
use Rattle.btf_codec.specs.Gives.{EndsWithNul}

found : (b : ℕ) (bs : List ℕ) (z : Bool) → (b == 0) ≡ z
    → ((b ≡ 0 → ⊥) → (t : List ℕ) × (text_from bs ≡ Some t)) → (t : List ℕ)
    × ((if z then Some [] else option_map (λ (rest : List ℕ). b ∷ rest) (text_from bs)) ≡ Some t)
found b bs true z more = ([], refl)
found b bs false z more = let h = more (eqb-false b 0 z) in
    (b ∷ h.0, ap (λ (o : Option (List ℕ)). option_map (λ (rest : List ℕ). b ∷ rest) o) h.1)

-- bytes that end with NUL begin with a text
pub text_there : (zs : List ℕ) → 0 < length zs → get_or zs (length zs - 1) 0 ≡ 0
    → (t : List ℕ) × (text_from zs ≡ Some t)
unfolding text_from
text_there [] lt e = absurd (omega arith)
text_there (b ∷ []) lt e = found b [] (b == 0) refl (λ (n : b ≡ 0 → ⊥). absurd (n e))
text_there (b ∷ c ∷ cs) lt e =
    found b (c ∷ cs) (b == 0) refl
    (λ (n : b ≡ 0 → ⊥). text_there (c ∷ cs) (omega arith)
    (let i : length (b ∷ c ∷ cs) - 1 ≡ suc (length (c ∷ cs) - 1) = omega arith in
    subst (λ (k : ℕ). get_or (b ∷ c ∷ cs) k 0 ≡ 0) i e))

pub text_in_first : (xs ys : List ℕ) (at : ℕ) → EndsWithNul xs → at < length xs
    → text_of xs at ≡ text_of (xs ++ ys) at
unfolding text_of
text_in_first xs ys at ends lt =
    let l : length (drop at xs) ≡ length xs - at = length-drop at xs in
    let i : at + (length (drop at xs) - 1) ≡ length xs - 1 = omega (arith, l) in
    let g : get_or (drop at xs) (length (drop at xs) - 1) 0 ≡ 0 = get_or-drop at xs
    (length (drop at xs) - 1) 0 ∙ ap (λ (k : ℕ). get_or xs k 0) i ∙ ends (omega arith) in
    let h = text_there (drop at xs) (omega (arith, l)) g in
    h.1 ∙ sym (text_of_more xs ys at h.0 h.1)

pub text_in_second : (xs ys : List ℕ) (at : ℕ) → length xs ≤ at
    → text_of ys (at - length xs) ≡ text_of (xs ++ ys) at
unfolding text_of
text_in_second xs ys at le =
    let d : drop (at - length xs) ys ≡ drop at (xs ++ ys) =
    ap (λ (zs : List ℕ). drop (at - length xs) zs) (sym (drop_at xs ys (length xs) refl))
    ∙ drop-drop (at - length xs) (length xs) (xs ++ ys)
    ∙ ap (λ (k : ℕ). drop k (xs ++ ys)) (omega arith) in
    ap (λ (zs : List ℕ). text_from zs) d
