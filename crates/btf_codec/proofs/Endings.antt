-- A string section ends with NUL.
use Rattle.std.proofs.Common.{◌≡◌, ℕ, ◌-◌, ◌<◌, List, [], ◌∷◌, ◌++◌, length, get_or, slice_get}
use Rattle.std.proofs.Common.{Option, None, Some, refl, sym, ap, subst, ◌∙◌, arith, append_assoc}
use Rattle.std.proofs.Common.{append-nil}
use Rattle.std.specs.List.{flat_map}
use Rattle.std.proofs.lemmas.List.{get_or_push, length-append}
use Rattle.std.proofs.lemmas.Option.{slice_get-get_or}
use Rattle.btf_strings.specs.Names.{Names, first_string, own_section, with_nul}

abbrev EndsWithNul : List ℕ → Type 0
EndsWithNul xs = 0 < length xs → get_or xs (length xs - 1) 1 ≡ 0

with_one : (xs name : List ℕ) → EndsWithNul (xs ++ with_nul name)
with_one xs name = λ (lt : 0 < length (xs ++ with_nul name)).
    let e : (xs ++ name) ++ 0 ∷ [] ≡ xs ++ with_nul name = append_assoc xs name (0 ∷ []) in
    let l : length (xs ++ name) ≡ length ((xs ++ name) ++ 0 ∷ []) - 1 =
    omega (arith, length-append (xs ++ name) (0 ∷ [])) in
    subst (λ (ys : List ℕ). get_or ys (length ys - 1) 1 ≡ 0) e
    (get_or_push (xs ++ name) 0 1 (length ((xs ++ name) ++ 0 ∷ []) - 1) l)

with_all : (xs : List ℕ) (names : List (List ℕ)) → EndsWithNul xs
    → EndsWithNul (xs ++ flat_map with_nul names)
with_all xs [] h = subst (λ (ys : List ℕ). EndsWithNul ys) (sym (append-nil xs)) h
with_all xs (n ∷ ns) h = subst (λ (ys : List ℕ). EndsWithNul ys) (append_assoc xs (with_nul n)
    (flat_map with_nul ns)) (with_all (xs ++ with_nul n) ns (with_one xs n))

first_ends : (base : Option (List ℕ)) → EndsWithNul (first_string base)
first_ends None = λ (lt : 0 < 1). refl
first_ends (Some section) = λ (lt : 0 < 0). absurd (omega arith)

pub section_ends : (s : Names) → 0 < length (own_section s)
    → slice_get (own_section s) (length (own_section s) - 1) ≡ Some 0
unfolding own_section
section_ends s lt =
    slice_get-get_or (own_section s) (length (own_section s) - 1) 1 (omega arith)
    ∙ ap (λ (n : ℕ). Some n) (with_all (first_string s.base) s.own (first_ends s.base) lt)
