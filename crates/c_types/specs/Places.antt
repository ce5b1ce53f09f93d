-- The places of the types of a unit.
use Rattle.std.specs.Prelude.{ℕ, [], Option, None, Some}
use Rattle.std.specs.declared.alloc.Global.{Global}
use Rattle.std.specs.declared.boxed.Box.{Box}
use Rattle.type_attributes.specs.declared.fault.TypeFault.{TypeFault}
use Rattle.type_attributes.specs.declared.source.SourceType.{SourceType}
use Rattle.type_attributes.specs.Labels.{plain_label}

-- what stands in the place of an entry's type until the type is whole
abbrev pub reserved : ℕ → SourceType
reserved at = record { at = at; label = plain_label 0 [] 0; targets = [] }

-- the refusal that is kept in memory of its own, if there is one
abbrev pub fault_in : Option (Box TypeFault Global) → Option TypeFault
fault_in None = None
fault_in (Some b) = Some b.value
