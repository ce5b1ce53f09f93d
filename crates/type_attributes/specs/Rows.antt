-- What the entries of a unit say of their extents, as rows by rising places.
use Rattle.std.specs.Prelude.{ℕ, ◌≡◌, ◌==◌, ◌++◌, true, List, [], ◌∷◌, Option, None, Some}
use Rattle.std.specs.Prelude.{if◌then◌else◌}
use Rattle.std.specs.List.Sorted.{IsNonDecreasingBy}
use Rattle.dwarf_forms.specs.Meanings.{Sections}
use Rattle.entry_tree.specs.Items.{Given}
use Rattle.type_attributes.specs.declared.extents.Extent.{Extent}
use Rattle.type_attributes.specs.declared.extents.Extent.TheVariants.{Unknown}
use Rattle.type_attributes.specs.declared.extents.ExtentRow.{ExtentRow}
use Rattle.type_attributes.specs.declared.extents.Extents.{Extents}
use Rattle.type_attributes.specs.declared.scope.UnitCtx.{UnitCtx}
use Rattle.type_attributes.specs.Scopes.{Scope, scope}
use Rattle.type_attributes.specs.Extents.{extent_of, extent_at}
use Rattle.type_attributes.specs.Positions.{needs_extents}

-- one for each entry that says something
abbrev pub row_if : ℕ → Extent → List ExtentRow
row_if at Unknown = []
row_if at extent = record { at = at; extent = extent } ∷ []

abbrev pub rows_of : Sections → List Given → List ExtentRow
rows_of c [] = []
rows_of c (e ∷ es) = row_if e.at (extent_of c e) ++ rows_of c es

-- what the first row at a place says
abbrev pub extent_in : List ExtentRow → ℕ → Extent
extent_in [] at = Unknown
extent_in (r ∷ rs) at = if r.at == at then r.extent else extent_in rs at

-- rows that rise and say what the entries of a unit say
pub record SayExtents (s : Scope) (rows : List ExtentRow) : Type 0 where
  pub rising : IsNonDecreasingBy (λ (r : ExtentRow). r.at) rows
  pub says : (at : ℕ) → extent_in rows at ≡ extent_at s.sections s.entries at

-- the rows are there and right
abbrev pub AreKnown : Scope → Option Extents → Type 0
AreKnown s None = ⊥
AreKnown s (Some x) = SayExtents s x.rows.items

-- they are, where the place of an entry is found by them
abbrev pub IsReady : UnitCtx → Given → Type 0
IsReady c m = needs_extents (scope c) m ≡ true → AreKnown (scope c) c.extents
