-- Rows of a table in memory, and the declarations that they are.
use Rattle.std.specs.Prelude.{ℕ, ◌≡◌, ◌+◌, ◌<◌, ◌≤◌, ◌⊎◌, List, map, length, get_or, Option}
use Rattle.std.specs.Prelude.{◌++◌, None, Some, Result, Ok, Err, slice_get, slice_range}
use Rattle.std.specs.Ordering.{nat_cmp}
use Rattle.std.specs.BTreeMap.{BTreeMap, get}
use Rattle.dwarf_abbrev.specs.Declarations.{Declaration, parts_of}
use Rattle.dwarf_abbrev.specs.Table.{Fails}
use Rattle.dwarf_abbrev.specs.ValueMaps.{IsMapOf}
use Rattle.dwarf_abbrev.specs.declared.fault.AbbrevFault.{AbbrevFault}
use Rattle.dwarf_abbrev.specs.declared.runs.FixedRun.{FixedRun}
use Rattle.dwarf_abbrev.specs.declared.spec.Spec.{Spec}
use Rattle.dwarf_abbrev.specs.declared.row.Row.{Row}
use Rattle.dwarf_abbrev.specs.declared.row.Abbrev.{Abbrev}
use Rattle.dwarf_abbrev.specs.declared.row.Head.{Head}

abbrev pub declaration_of : List Spec → Row → Declaration
declaration_of specs r = record {
  code = r.code;
  tag = r.tag;
  children = r.children;
  specs = slice_range specs r.from r.to;
}

abbrev pub declarations_of : List Spec → List Row → List Declaration
declarations_of specs rows = map (declaration_of specs) rows

abbrev pub shown : Abbrev → Declaration
shown a = record { code = a.code; tag = a.tag; children = a.children; specs = a.specs.now }

-- an abbreviation without its attributes, and these
abbrev pub with_specs : Head → List Spec → Declaration
with_specs h specs =
    record { code = h.code; tag = h.tag; children = h.children; specs = specs }

-- what begins an abbreviation, and the attributes that were put behind a list, are what reading
-- gives; nothing is put there at a table's end
abbrev pub GivesHead : List Spec → List Spec → Result (Option Head × ℕ) AbbrevFault
    → Result (Option Declaration × ℕ) AbbrevFault → Type 0
GivesHead old new (Ok x) read = elim x.0 [
  | None ↦ (new ≡ old) × (read ≡ Ok (None, x.1))
  | Some h ↦ (more : List Spec) × (new ≡ old ++ more) × (read ≡ Ok (Some (with_specs h more), x.1))
]
GivesHead old new (Err e) read = Fails e read

abbrev pub row_code : List Row → ℕ → ℕ
row_code rows i = get_or (map (λ (r : Row). r.code) rows) i 0

abbrev pub code_at : List Declaration → ℕ → ℕ
code_at declarations i = get_or (map (λ (r : Declaration). r.code) declarations) i 0

-- each declaration stands at the place of its code, or the map has its place; the map has no other
-- place; no code stands twice
pub record IsPlaced (declarations : List Declaration) (others : BTreeMap ℕ ℕ) : Type 0 where
  pub each : (i : ℕ) → i < length declarations
      → (code_at declarations i ≡ i + 1) ⊎ (get nat_cmp others (code_at declarations i) ≡ Some i)
  pub found : (q i : ℕ) → get nat_cmp others q ≡ Some i
      → (i < length declarations) × (code_at declarations i ≡ q)
  pub distinct : (i j : ℕ) → i < length declarations → j < length declarations
      → code_at declarations i ≡ code_at declarations j → i ≡ j

-- the map has one more place, or needs none
abbrev pub Places : BTreeMap ℕ ℕ → BTreeMap ℕ ℕ → ℕ → ℕ → Type 0
Places old new code index =
    ((q : ℕ) → (q ≡ code → ⊥) → get nat_cmp new q ≡ get nat_cmp old q) × (((code ≡ index + 1)
    × (get nat_cmp new code ≡ get nat_cmp old code)) ⊎ (get nat_cmp new code ≡ Some index))

-- the attributes of the row in this place, and their runs, lie in the table's vectors
pub record IsRow (specs : List Spec) (runs : List FixedRun) (i : ℕ) (r : Row) : Type 0 where
  pub ordered : r.from ≤ r.to
  pub inside : r.to ≤ length specs
  pub within : r.to + i + 1 ≤ length runs
  pub mapped : IsMapOf (slice_range specs r.from r.to)
      (slice_range runs (r.from + i) (r.to + i + 1)) r.slots

-- each row has its attributes and runs there, and they are all that is there
pub record AreRows (specs : List Spec) (runs : List FixedRun) (rows : List Row) : Type 0 where
  pub each : (i : ℕ) (r : Row) → slice_get rows i ≡ Some r → IsRow specs runs i r
  pub count : length runs ≡ length specs + length rows
  pub parts : parts_of (declarations_of specs rows) ≡ length specs + length rows
