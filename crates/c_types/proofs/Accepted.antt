-- What holds of the types of a unit that is accepted.
use Rattle.std.proofs.Common.{◌≡◌, ℕ, Bool, true, false, List, Option, None, Some, Result, Ok, Err}
use Rattle.std.proofs.Common.{if◌then◌else◌, refl, subst}
use Rattle.elf_sections.specs.declared.fault.Kind.TheVariants.{Abbrev as AbbrevSection}
use Rattle.elf_sections.specs.Sections.{section_bytes}
use Rattle.dwarf_abbrev.specs.Declarations.{Declaration}
use Rattle.dwarf_abbrev.specs.Table.{table_at}
use Rattle.dwarf_abbrev.specs.declared.fault.AbbrevFault.{AbbrevFault}
use Rattle.entry_tree.specs.Contexts.{within_of}
use Rattle.entry_tree.specs.Roots.{root_of}
use Rattle.entry_tree.specs.Walks.{entries_of}
use Rattle.entry_tree.specs.declared.unit.Unit.{Unit}
use Rattle.entry_tree.specs.declared.roots.RootInfo.{RootInfo}
use Rattle.entry_tree.specs.declared.fault.WalkFault.{WalkFault}
use Rattle.type_attributes.specs.declared.source.UnitTypes.{UnitTypes}
use Rattle.type_attributes.specs.declared.fault.TypeFault.{TypeFault}
use Rattle.type_attributes.specs.Scopes.{scope_of}
use Rattle.c_types.specs.Types.{or_least, or_walk, is_passed_over, no_types, types_in, after_root}
use Rattle.c_types.specs.Types.{after_table, types_of_unit_of}

same : (u t : UnitTypes) → ◌≡◌ {A = Result UnitTypes TypeFault} (Ok u) (Ok t) → u ≡ t
same u t e = cc

pub walked : (o : Option WalkFault) (r : Result UnitTypes TypeFault) (t : UnitTypes)
    → or_walk o r ≡ Ok t → r ≡ Ok t
walked None r t e = e
walked (Some f) r t e = cc

pub accepted : (u t : UnitTypes) (o : Option TypeFault) → or_least u o ≡ Ok t → (o ≡ None) × (u ≡ t)
accepted u t None e = (refl, same u t e)
accepted u t (Some f) e = absurd (cc)

-- what holds of no types, and of those of each walk over the unit
module _ (file : List ℕ) (unit : Unit) (P : UnitTypes → Type 0) (none : P no_types)
    (some : (declarations : List Declaration) (base : ℕ) (t : UnitTypes) → types_in (scope_of file
    unit declarations base) (entries_of file unit declarations).ending ≡ Ok t → P t) where
  either : (over : Bool) (r : Result UnitTypes TypeFault) (t : UnitTypes) → (r ≡ Ok t → P t)
      → (if over then Ok no_types else r) ≡ Ok t → P t
  either true r t h e = subst P (same no_types t e) none
  either false r t h e = h e

  by_root : (declarations : List Declaration) (r : Result RootInfo WalkFault) (t : UnitTypes)
      → after_root file unit declarations r ≡ Ok t → P t
  by_root declarations (Err f) t e = cc
  by_root declarations (Ok root) t e = either (is_passed_over root.language) (types_in
      (scope_of file unit declarations root.str_base) (entries_of file unit declarations).ending) t
      (some declarations root.str_base t) e

  by_table : (r : Result (List Declaration) AbbrevFault) (t : UnitTypes)
      → after_table file unit r ≡ Ok t → P t
  by_table (Err f) t e = cc
  by_table (Ok declarations) t e =
      by_root declarations (root_of (within_of file unit) declarations unit.first) t e

  pub in_unit : (t : UnitTypes) → types_of_unit_of file unit ≡ Ok t → P t
  in_unit t e = by_table (table_at (section_bytes AbbrevSection file) unit.abbrev_at) t e
