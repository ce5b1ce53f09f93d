-- What the first value of an attribute means.
use Rattle.std.proofs.Common.{◌≡◌, ℕ, List, Option, Some, Result, Ok, Err, ap, ◌∙◌}
use Rattle.std.specs.Option.{option_map}
use Rattle.dwarf_abbrev.specs.declared.spec.Spec.{Spec}
use Rattle.dwarf_forms.specs.declared.fault.FormFault.{FormFault}
use Rattle.dwarf_forms.specs.Values.{Shown, Within, value_of}
use Rattle.dwarf_forms.specs.Meanings.{meant}
use Rattle.entry_tree.specs.Reads.{value_with, and_then}
use Rattle.entry_tree.specs.Attributes.{IsFirstAt}

by_found : {A : Type 0} (meaning : ℕ → Shown → Result A FormFault) (name attribute : ℕ)
    (r : Result (Shown × ℕ) FormFault) (w : Option Shown) → attribute ≡ name
    → and_then r (λ (v : Shown × ℕ). Ok (Some v.0)) ≡ Ok w
    → Some (meant (meaning attribute) r) ≡ option_map (meaning name) w
by_found meaning name attribute (Ok v) w is e =
    let p : Some v.0 ≡ w = cc in
    ap (λ (n : ℕ). Some (meaning n v.0)) is ∙ ap (option_map (meaning name)) p
by_found meaning name attribute (Err f) w is e = cc

pub meant_at : {A : Type 0} (meaning : ℕ → Shown → Result A FormFault) (c : Within) (name : ℕ)
    (values : List (ℕ × Shown)) (s : Spec) (at : ℕ) → IsFirstAt c name values s at
    → Some (meant (meaning s.attribute) (value_of c s at))
    ≡ option_map (meaning name) (value_with name values)
meant_at meaning c name values s at first =
    by_found meaning name s.attribute (value_of c s at) (value_with name values) first.named
    first.value
