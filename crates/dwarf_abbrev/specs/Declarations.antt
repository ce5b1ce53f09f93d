-- The declarations of a table.
use Rattle.std.specs.Prelude.{ℕ, suc, Bool, List, [], ◌∷◌, Option, None, Some, ◌==◌, if◌then◌else◌}
use Rattle.std.specs.Prelude.{length, sum_by}
use Rattle.std.specs.Option.{option_map}
use Rattle.dwarf_abbrev.specs.declared.spec.Spec.{Spec}

pub record Declaration : Type 0 where
  pub code : ℕ
  pub tag : ℕ
  pub children : Bool
  pub specs : List Spec

-- the place of the first declaration with a code
abbrev pub place_of : ℕ → List Declaration → Option ℕ
place_of code [] = None
place_of code (r ∷ rs) =
    if r.code == code then Some 0 else option_map (λ (i : ℕ). suc i) (place_of code rs)

-- the first declaration with a code
abbrev pub declaration_with : ℕ → List Declaration → Option Declaration
declaration_with code [] = None
declaration_with code (r ∷ rs) = if r.code == code then Some r else declaration_with code rs

-- how many declarations there are and how many attributes they have, together
abbrev pub parts_of : List Declaration → ℕ
parts_of declarations = sum_by (λ (d : Declaration). suc (length d.specs)) declarations
