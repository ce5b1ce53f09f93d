-- Values of fixed sizes: by one addition.
use Rattle.std.proofs.Common.{◌≡◌, ℕ, ◌+◌, ◌-◌, ◌≤◌, List, [], ◌∷◌, ◌++◌, length, take}
use Rattle.std.proofs.Common.{drop, zero, suc, Option, None, Some, Result, Ok, refl, sym, ap, ◌∙◌}
use Rattle.std.proofs.Common.{arith}
use Rattle.std.specs.Option.{IfSome}
use Rattle.std.proofs.lemmas.List.{take-append-drop}
use Rattle.std.proofs.lemmas.Option.{same_Some}
use Rattle.dwarf_abbrev.specs.declared.spec.Spec.{Spec}
use Rattle.dwarf_abbrev.specs.declared.runs.FixedRun.{FixedRun}
use Rattle.dwarf_abbrev.specs.Sizes.{bytes_of, plus, sizes_of, total}
use Rattle.dwarf_abbrev.specs.ValueMaps.{IsRun}
use Rattle.dwarf_forms.specs.declared.fault.FormFault.{FormFault}
use Rattle.dwarf_forms.specs.Values.{Shown, Within, end_of}
use Rattle.dwarf_forms.proofs.Fixed.{value_fixed}
use Rattle.entry_tree.specs.Reads.{and_then, ends_at}
use Rattle.entry_tree.proofs.Ends.{ends_more, ends_none, ends_append}

take_shorter : (m n : ℕ) (xs : List Spec) → m ≤ n → take m (take n xs) ≡ take m xs
take_shorter zero n xs le = refl
take_shorter (suc m) zero xs le = absurd (omega (arith, le))
take_shorter (suc m) (suc n) [] le = refl
take_shorter (suc m) (suc n) (x ∷ xs) le =
    ap (λ (ys : List Spec). x ∷ ys) (take_shorter m n xs (omega (arith, le)))

-- all of some pairs
both_sizes : (p q : Option ℕ) (w : ℕ) → plus p q ≡ Some w
    → (m n : ℕ) × (p ≡ Some m) × (q ≡ Some n) × (m + n ≡ w)
both_sizes (Some m) (Some n) w e = (m, n, refl, refl, same_Some (m + n) w e)
both_sizes (Some m) None w e = cc
both_sizes None q w e = cc

pub ends_fixed : (c : Within) (specs : List Spec) (at w : ℕ) → sizes_of c.offset_bytes
    c.address_bytes specs ≡ Some w → at + w ≤ length c.unit → ends_at c specs at ≡ Ok (at + w)
ends_fixed c [] at w size le = let e : at ≡ at + w = omega (arith, same_Some 0 w size) in
    ends_none c at ∙ ap (λ (n : ℕ). Ok n) e
ends_fixed c (s ∷ ss) at w size le =
    let b = both_sizes (bytes_of c.offset_bytes c.address_bytes s.form)
    (sizes_of c.offset_bytes c.address_bytes ss) w size in
    let first = value_fixed c s at b.0 b.2 (omega (arith, b.4, le)) in
    let rest = ends_fixed c ss (at + b.0) b.1 b.3 (omega (arith, b.4, le)) in
    let sum : (at + b.0) + b.1 ≡ at + w = omega (arith, b.4) in
    ends_more c s ss at ∙ ap (λ (r : Result (Shown × ℕ) FormFault).
    and_then (end_of r) (λ (e : ℕ). ends_at c ss e)) first.1 ∙ rest ∙ ap (λ (n : ℕ). Ok n) sum

-- the values of fixed sizes between two places
pub ends_behind_run : (c : Within) (specs : List Spec) (reached count from at w : ℕ)
    → reached ≤ count → sizes_of c.offset_bytes c.address_bytes (drop reached (take count specs))
    ≡ Some w → at + w ≤ length c.unit → ends_at c (take reached specs) from ≡ Ok at
    → ends_at c (take count specs) from ≡ Ok (at + w)
ends_behind_run c specs reached count from at w le size inside before =
    let split : take count specs ≡ take reached specs ++ drop reached (take count specs) =
    sym (take-append-drop reached (take count specs))
    ∙ ap (λ (ss : List Spec). ss ++ drop reached (take count specs))
    (take_shorter reached count specs le) in
    ap (λ (ss : List Spec). ends_at c ss from) split
    ∙ ends_append c (take reached specs) (drop reached (take count specs)) from
    ∙ ap (λ (r : Result ℕ FormFault). and_then r
    (λ (m : ℕ). ends_at c (drop reached (take count specs)) m)) before
    ∙ ends_fixed c (drop reached (take count specs)) at w size inside

-- the values of a run
pub run_passed : (c : Within) (specs : List Spec) (start i from at end : ℕ) (r : FixedRun)
    → IsRun specs i r → i ≡ start + r.values
    → end ≡ at + total c.offset_bytes c.address_bytes r → end ≤ length c.unit
    → ends_at c (take start specs) from ≡ Ok at → ends_at c (take i specs) from ≡ Ok end
run_passed c specs start i from at end r run is sum le before =
    let begins : i - r.values ≡ start = omega (arith, is) in
    let inside : at + total c.offset_bytes c.address_bytes r ≤ length c.unit = rw (← sum) le in
    ends_behind_run c specs start i from at (total c.offset_bytes c.address_bytes r)
    (omega (arith, is))
    (ap (λ (n : ℕ). sizes_of c.offset_bytes c.address_bytes (drop n (take i specs))) (sym begins)
    ∙ run.1 c.offset_bytes c.address_bytes) inside before
    ∙ ap (λ (n : ℕ). Ok n) (sym sum)

pub run_passed_by : (c : Within) (specs : List Spec) (start i from at : ℕ) (r : FixedRun)
    (o : Option ℕ) → IsRun specs i r → i ≡ start + r.values
    → IfSome o (λ (end : ℕ). end ≡ at + total c.offset_bytes c.address_bytes r)
    → IfSome o (λ (end : ℕ). end ≤ length c.unit) → ends_at c (take start specs) from ≡ Ok at
    → IfSome o (λ (end : ℕ). ends_at c (take i specs) from ≡ Ok end)
run_passed_by c specs start i from at r None run is sum le before = tt
run_passed_by c specs start i from at r (Some end) run is sum le before =
    run_passed c specs start i from at end r run is sum le before
