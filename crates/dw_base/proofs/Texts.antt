-- Texts: that two are equal, that none has a NUL, and that one lies in its bytes.
use Rattle.std.proofs.Common.{◌≡◌, ◌≢◌, ◌+◌, ◌<◌, ◌==◌, ◌∙◌, ℕ, suc, zero, Bool, true, false, List}
use Rattle.std.proofs.Common.{[], ◌∷◌, length, drop, Option, None, Some, if◌then◌else◌, refl, sym}
use Rattle.std.proofs.Common.{subst, arith}
use Rattle.std.specs.Option.{option_map}
use Rattle.std.specs.Str.{bytes_eq}
use Rattle.std.proofs.lemmas.Bool.{eqb-false}
use Rattle.std.proofs.lemmas.List.{length-drop}
use Rattle.std.proofs.lemmas.Slice.Eq.{bytes_eq-Decides}
use Rattle.dw_base.specs.Texts.{text_from, text_of, HasNoNul}

pub bytes_eq_same : (a b : List ℕ) → bytes_eq a b ≡ true → a ≡ b
bytes_eq_same a b e = (bytes_eq-Decides a b).0 e

pub bytes_eq_true : (a b : List ℕ) → a ≡ b → bytes_eq a b ≡ true
bytes_eq_true a b e = (bytes_eq-Decides a b).1 e

bytes_eq_both_ways : (a b : List ℕ) (s t : Bool) → bytes_eq a b ≡ s → bytes_eq b a ≡ t → s ≡ t
bytes_eq_both_ways a b true true e f = refl
bytes_eq_both_ways a b false false e f = refl
bytes_eq_both_ways a b true false e f = sym (bytes_eq_true b a (sym (bytes_eq_same a b e))) ∙ f
bytes_eq_both_ways a b false true e f = sym e ∙ bytes_eq_true a b (sym (bytes_eq_same b a f))

pub bytes_eq_turned : (a b : List ℕ) → bytes_eq a b ≡ bytes_eq b a
bytes_eq_turned a b = bytes_eq_both_ways a b (bytes_eq a b) (bytes_eq b a) refl refl

-- a byte before a text
no_nul_before : (b : ℕ) (u : List ℕ) → b ≢ 0 → HasNoNul u → HasNoNul (b ∷ u)
no_nul_before b u ne h zero d lt = ne
no_nul_before b u ne h (suc k) d lt = h k d (omega arith)

no_nul_step : (b : ℕ) (z : Bool) (o : Option (List ℕ)) (t : List ℕ) → (b == 0) ≡ z
    → ((u : List ℕ) → o ≡ Some u → HasNoNul u)
    → (if z then Some [] else option_map (λ (rest : List ℕ). b ∷ rest) o) ≡ Some t → HasNoNul t
no_nul_step b true o t z ih e = let q : [] ≡ t = cc in
    subst (λ (xs : List ℕ). HasNoNul xs) q (λ (k d : ℕ) (lt : k < 0). absurd (omega arith))
no_nul_step b false None t z ih e = cc
no_nul_step b false (Some u) t z ih e = let q : b ∷ u ≡ t = cc in
    subst (λ (xs : List ℕ). HasNoNul xs) q (no_nul_before b u (eqb-false b 0 z) (ih u refl))

pub text_from_no_nul : (xs t : List ℕ) → text_from xs ≡ Some t → HasNoNul t
unfolding text_from
text_from_no_nul [] t e = cc
text_from_no_nul (b ∷ bs) t e = no_nul_step b (b == 0) (text_from bs) t refl
    (λ (u : List ℕ) (h : text_from bs ≡ Some u). text_from_no_nul bs u h) e

pub text_of_no_nul : (bytes t : List ℕ) (at : ℕ) → text_of bytes at ≡ Some t → HasNoNul t
unfolding text_of
text_of_no_nul bytes t at e = text_from_no_nul (drop at bytes) t e

shorter_step : (x : ℕ) (xs t : List ℕ) (b : Bool) (o : Option (List ℕ))
    → ((u : List ℕ) → o ≡ Some u → length u < length xs) → (if b then Some []
    else option_map (λ (rest : List ℕ). x ∷ rest) o) ≡ Some t → length t < suc (length xs)
shorter_step x xs t true o ih e = let q : [] ≡ t = cc in rw (← q) (omega arith)
shorter_step x xs t false None ih e = cc
shorter_step x xs t false (Some u) ih e =
    let q : x ∷ u ≡ t = cc in rw (← q) (omega (arith, ih u refl))

text_shorter : (xs t : List ℕ) → text_from xs ≡ Some t → length t < length xs
unfolding text_from
text_shorter [] t e = cc
text_shorter (x ∷ xs) t e = shorter_step x xs t (x == 0) (text_from xs)
    (λ (u : List ℕ) (h : text_from xs ≡ Some u). text_shorter xs u h) e

-- a text and its NUL lie in the bytes
pub text_within : (bytes : List ℕ) (at : ℕ) (t : List ℕ) → text_of bytes at ≡ Some t
    → at + length t < length bytes
unfolding text_of
text_within bytes at t e = omega (arith, text_shorter (drop at bytes) t e, length-drop at bytes)
