-- Which attributes an entry has, and where their values stand.
use Rattle.std.specs.Prelude.{ℕ, ◌≡◌, true, is_ok, is_some, List, Option, None, Some, Ok}
use Rattle.dwarf_abbrev.specs.declared.spec.Spec.{Spec}
use Rattle.dwarf_abbrev.specs.ValueMaps.{has_spec}
use Rattle.dwarf_forms.specs.Values.{Shown, Within, value_of}
use Rattle.entry_tree.specs.Reads.{and_then, values_at, value_with}
use Rattle.entry_tree.specs.Items.{listed}
use Rattle.entry_tree.specs.declared.entry.Position.{Position}

-- the first value of an attribute among some values is the one that a pair of its name has at a
-- place
pub record IsFirstAt (c : Within) (name : ℕ) (values : List (ℕ × Shown)) (s : Spec) (at : ℕ)
    : Type 0 where
  pub named : s.attribute ≡ name
  pub value : and_then (value_of c s at) (λ (v : Shown × ℕ). Ok (Some v.0))
      ≡ Ok (value_with name values)

-- where it stands, or that there is none
abbrev pub StandsAt : Within → ℕ → List (ℕ × Shown) → Option Position → Type 0
StandsAt c name values None = value_with name values ≡ None
StandsAt c name values (Some p) = IsFirstAt c name values p.spec.now p.at

-- an entry whose values can be read has a value of an attribute exactly where its abbreviation has
-- the attribute
abbrev pub HasByAbbreviation : Type 0
HasByAbbreviation =
    (c : Within) (specs : List Spec) (from name : ℕ) → is_ok (values_at c specs from) ≡ true
    → is_some (value_with name (listed (values_at c specs from))) ≡ has_spec name specs
