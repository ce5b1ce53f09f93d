-- What the definitions say of every unit.
use Rattle.std.specs.Prelude.{◌≡◌, ℕ, List, [], None, Some, Ok}
use Rattle.entry_tree.specs.declared.unit.Unit.{Unit}
use Rattle.type_attributes.specs.declared.source.UnitTypes.{UnitTypes}
use Rattle.type_attributes.specs.declared.fault.TypeFault.{TypeFault}
use Rattle.type_attributes.specs.Faults.{least, IsFirstAmong}
use Rattle.c_types.specs.Types.{types_of_unit_of}
use Rattle.c_types.specs.Formed.{AreFormed}
use Rattle.type_attributes.specs.Ordered.{AreInOrder, LieIn}

-- the types of a unit of any file are formed
abbrev pub TypesAreFormed : Type 0
TypesAreFormed = (file : List ℕ) (unit : Unit) (t : UnitTypes) → types_of_unit_of file unit ≡ Ok t
    → AreFormed t.types

-- they stand in the order of their entries, behind the unit's header and before its end
abbrev pub TypesRise : Type 0
TypesRise = (file : List ℕ) (unit : Unit) (t : UnitTypes) → types_of_unit_of file unit ≡ Ok t
    → AreInOrder t.types × LieIn unit.first unit.end t.types

-- the refusal that is answered is one of the candidates and comes after none of them; there is none
-- where there are no candidates
abbrev pub LeastIsFirst : Type 0
LeastIsFirst = (fs : List TypeFault)
    → (least fs ≡ None → fs ≡ []) × ((f : TypeFault) → least fs ≡ Some f → IsFirstAmong fs f)
