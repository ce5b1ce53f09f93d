-- The nodes of all units in order, before they are linked: the types of each unit that is read, and
-- behind them the type of the indices of its arrays.
use Rattle.std.specs.Prelude.{ℕ, ◌+◌, ◌<◌, ◌^◌, Bool, false, List, [], ◌∷◌, ◌++◌, length, map}
use Rattle.std.specs.Prelude.{Option, None, Some, Result, Ok, Err, if◌then◌else◌}
use Rattle.c_model.specs.declared.kinds.TheConstants.{BTF_KIND_INT}
use Rattle.c_model.specs.declared.label.Label.{Label}
use Rattle.type_attributes.specs.declared.source.SourceType.{SourceType}
use Rattle.type_attributes.specs.declared.source.Target.{Target}
use Rattle.type_attributes.specs.declared.source.UnitTypes.{UnitTypes}
use Rattle.type_attributes.specs.declared.fault.TypeFault.{TypeFault}
use Rattle.c_types.specs.Types.{types_of_unit_of}
use Rattle.entry_tree.specs.Contexts.{IsUnitOf}
use Rattle.entry_tree.specs.declared.unit.Unit.{Unit}

-- a node that isn't linked yet: its file, the offset of its entry in .debug_info (none for a type
-- of indices), the number of the node that is the type of its unit's indices, what it is, and what
-- it refers to
pub record Source : Type 0 where
  pub file : ℕ
  pub at : Option ℕ
  pub index : ℕ
  pub label : Label
  pub targets : List Target

-- a unit of a file: the number of the file, its bytes, and the unit
pub record FileUnit : Type 0 where
  pub file : ℕ
  pub bytes : List ℕ
  pub unit : Unit

-- `__ARRAY_SIZE_TYPE__`
abbrev pub index_name : List ℕ
index_name = 95 ∷ 95 ∷ 65 ∷ 82 ∷ 82 ∷ 65 ∷ 89 ∷ 95 ∷ 83 ∷ 73 ∷ 90 ∷ 69 ∷ 95 ∷ 84 ∷ 89 ∷ 80 ∷ 69
    ∷ 95 ∷ 95 ∷ []

-- the type of the indices: an INT of 4 bytes without encoding, which has 32 bits
abbrev pub index_label : Label
index_label = record {
  kind = BTF_KIND_INT;
  name = index_name;
  flag = false;
  size = 4;
  extra = 32;
  parts = [];
}

abbrev pub source_of : ℕ → ℕ → SourceType → Source
source_of file index t =
    record { file = file; at = Some t.at; index = index; label = t.label; targets = t.targets }

abbrev pub made_sources : ℕ → ℕ → List SourceType → List Source
made_sources file index ts = map (source_of file index) ts

abbrev pub index_sources : ℕ → ℕ → Bool → List Source
index_sources file index has_array = if has_array then (record {
  file = file;
  at = None;
  index = index;
  label = index_label;
  targets = [];
}) ∷ [] else []

-- of a unit whose first node has a number
abbrev pub sources_of : ℕ → ℕ → UnitTypes → List Source
sources_of file start t =
    made_sources file (start + length t.types) t.types
    ++ index_sources file (start + length t.types) t.has_array

-- a unit that is refused: its file, the number of the unit, and why
pub record UnitRefusal : Type 0 where
  pub file : ℕ
  pub unit : ℕ
  pub fault : TypeFault

-- a unit that is refused refuses all
abbrev pub joined : ℕ → ℕ → List Source → Result UnitTypes TypeFault
    → (List Source → Result (List Source) UnitRefusal) → Result (List Source) UnitRefusal
joined file unit seen (Err f) go = Err (record { file = file; unit = unit; fault = f })
joined file unit seen (Ok t) go = go (seen ++ sources_of file (length seen) t)

-- the nodes of units from a number on, behind those of the units before
unfoldable pub gathered : ℕ → List Source → List FileUnit → Result (List Source) UnitRefusal
gathered unit seen [] = Ok seen
gathered unit seen (u ∷ us) =
    joined u.file unit seen (types_of_unit_of u.bytes u.unit) (λ more. gathered (unit + 1) more us)

-- the unit is one of its file's, and has fewer than 2^32 bytes
pub record IsReadable (u : FileUnit) : Type 0 where
  pub unit : IsUnitOf u.bytes u.unit
  pub small : u.unit.end < u.unit.at + 2 ^ 32
