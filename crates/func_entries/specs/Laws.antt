-- What the definitions say of the functions of every unit.
use Rattle.std.specs.Prelude.{◌≡◌, ◌<◌, ℕ, List, length, map, All, Ok}
use Rattle.dw_base.specs.Texts.{HasNoNul}
use Rattle.entry_tree.specs.declared.unit.Unit.{Unit}
use Rattle.type_attributes.specs.declared.source.SourceType.{SourceType}
use Rattle.c_types.specs.Formed.{AreFormed}
use Rattle.type_attributes.specs.Ordered.{AreInOrder, LieIn}
use Rattle.func_entries.specs.declared.entries.FuncEntry.{FuncEntry}
use Rattle.func_entries.specs.Units.{functions_of_unit_of}

abbrev pub protos_of : List FuncEntry → List SourceType
protos_of funcs = map (λ (f : FuncEntry). f.proto) funcs

-- a name that is not empty and has no NUL
abbrev pub IsName : List ℕ → Type 0
IsName name = (0 < length name) × HasNoNul name

-- the prototypes of a unit of any file are formed, and its functions are named
abbrev pub FunctionsAreFormed : Type 0
FunctionsAreFormed = (file : List ℕ) (unit : Unit) (fs : List FuncEntry)
    → functions_of_unit_of file unit ≡ Ok fs → AreFormed (protos_of fs)

abbrev pub FunctionsAreNamed : Type 0
FunctionsAreNamed = (file : List ℕ) (unit : Unit) (fs : List FuncEntry)
    → functions_of_unit_of file unit ≡ Ok fs → All (λ (f : FuncEntry). IsName f.name) fs

-- the functions stand in the order of their entries, behind the unit's header and before its end
abbrev pub FunctionsRise : Type 0
FunctionsRise =
    (file : List ℕ) (unit : Unit) (fs : List FuncEntry) → functions_of_unit_of file unit ≡ Ok fs
    → AreInOrder (protos_of fs) × LieIn unit.first unit.end (protos_of fs)
