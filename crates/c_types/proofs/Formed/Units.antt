-- The types of a unit.
use Rattle.std.proofs.Common.{ℕ, ◌+◌, List, length}
use Rattle.std.specs.Prelude.{All}
use Rattle.std.proofs.lemmas.List.Elements.{All-nil, All-weaker}
use Rattle.dwarf_abbrev.specs.Declarations.{Declaration}
use Rattle.entry_tree.specs.Contexts.{within_of}
use Rattle.entry_tree.specs.Walks.{entries_of}
use Rattle.entry_tree.specs.declared.unit.Unit.{Unit}
use Rattle.type_attributes.specs.declared.source.SourceType.{SourceType}
use Rattle.type_attributes.specs.declared.source.UnitTypes.{UnitTypes}
use Rattle.type_attributes.specs.Scopes.{scope_of}
use Rattle.c_types.specs.Formed.{IsFormed, AreFormed}
use Rattle.c_types.specs.Laws.{TypesAreFormed}
use Rattle.c_types.proofs.Accepted.{in_unit}
use Rattle.c_types.proofs.Formed.Names.{IsNamedCleanly}
use Rattle.c_types.proofs.Formed.Clean.{IsClean, coming_clean, named_cleanly}
use Rattle.c_types.proofs.Formed.Types.{types_in_formed}

pub entries_clean : (file : List ℕ) (unit : Unit) (declarations : List Declaration)
    → All IsNamedCleanly (entries_of file unit declarations).entries
entries_clean file unit declarations =
    All-weaker IsClean IsNamedCleanly named_cleanly (entries_of file unit declarations).entries
    (coming_clean (within_of file unit) declarations unit.first
    (length (within_of file unit).unit + 1) unit.first 0)

pub types_formed : TypesAreFormed
types_formed file unit =
    in_unit file unit (λ (t : UnitTypes). AreFormed t.types)
    (All-nil (λ (s : SourceType). IsFormed s.label (length s.targets)))
    (λ (declarations : List Declaration) (base : ℕ) (t : UnitTypes).
    types_in_formed (scope_of file unit declarations base)
    (entries_of file unit declarations).ending t (entries_clean file unit declarations))
