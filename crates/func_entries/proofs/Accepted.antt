-- What holds of the functions of a unit that is accepted.
use Rattle.std.proofs.Common.{◌≡◌, ℕ, Bool, true, false, List, [], Option, None, Some, Result}
use Rattle.std.proofs.Common.{Ok, Err, if◌then◌else◌, refl, subst}
use Rattle.elf_sections.specs.declared.fault.Kind.TheVariants.{Abbrev as AbbrevSection}
use Rattle.elf_sections.specs.Sections.{section_bytes}
use Rattle.dwarf_abbrev.specs.Declarations.{Declaration}
use Rattle.dwarf_abbrev.specs.Table.{table_at}
use Rattle.dwarf_abbrev.specs.declared.fault.AbbrevFault.{AbbrevFault}
use Rattle.entry_tree.specs.Contexts.{within_of}
use Rattle.entry_tree.specs.Roots.{root_of}
use Rattle.entry_tree.specs.Walks.{entries_of}
use Rattle.entry_tree.specs.declared.unit.Unit.{Unit}
use Rattle.entry_tree.specs.declared.roots.RootInfo.{RootInfo}
use Rattle.entry_tree.specs.declared.fault.WalkFault.{WalkFault}
use Rattle.type_attributes.specs.declared.fault.TypeFault.{TypeFault}
use Rattle.type_attributes.specs.Faults.{least}
use Rattle.type_attributes.specs.Scopes.{Scope, scope_of}
use Rattle.c_types.specs.Types as types
use Rattle.c_types.proofs.Formed.Refused.{least_none}
use Rattle.func_entries.specs.declared.entries.FuncEntry.{FuncEntry}
use Rattle.func_entries.specs.Functions.{functions_of, refusals_of}
use Rattle.func_entries.specs.Units.{or_least, or_walk, functions_in}
use Rattle.func_entries.specs.Units.{after_root, after_table, functions_of_unit_of}

same : (u v : List FuncEntry) → ◌≡◌ {A = Result (List FuncEntry) TypeFault} (Ok u) (Ok v) → u ≡ v
same u v e = cc

walked : (o : Option WalkFault) (r : Result (List FuncEntry) TypeFault) (u : List FuncEntry)
    → or_walk o r ≡ Ok u → r ≡ Ok u
walked None r u e = e
walked (Some f) r u e = cc

accepted : (v u : List FuncEntry) (o : Option TypeFault) → or_least v o ≡ Ok u → (o ≡ None) × (v ≡ u)
accepted v u None e = (refl, same v u e)
accepted v u (Some f) e = absurd (cc)

-- of a walk that is accepted nothing is refused
pub in_walk : (s : Scope) (ending : Option WalkFault) (u : List FuncEntry) → functions_in s ending ≡ Ok u
    → (refusals_of s.sections s.entries ≡ []) × (functions_of s.sections s.entries ≡ u)
in_walk s ending u e =
    let fs = refusals_of s.sections s.entries in
    let a = accepted (functions_of s.sections s.entries) u (least fs)
    (walked ending (or_least (functions_of s.sections s.entries) (least fs)) u e) in
    (least_none fs a.0, a.1)

-- what holds of no functions, and of those of each walk over the unit
module _ (file : List ℕ) (unit : Unit) (P : List FuncEntry → Type 0) (none : P [])
    (some : (declarations : List Declaration) (base : ℕ) (u : List FuncEntry) → functions_in (scope_of
    file unit declarations base) (entries_of file unit declarations).ending ≡ Ok u → P u) where
  either : (over : Bool) (r : Result (List FuncEntry) TypeFault) (u : List FuncEntry) → (r ≡ Ok u → P u)
      → (if over then Ok [] else r) ≡ Ok u → P u
  either true r u h e = subst P (same [] u e) none
  either false r u h e = h e

  by_root : (declarations : List Declaration) (r : Result RootInfo WalkFault) (u : List FuncEntry)
      → after_root file unit declarations r ≡ Ok u → P u
  by_root declarations (Err f) u e = cc
  by_root declarations (Ok root) u e = either (types.is_passed_over root.language) (functions_in
      (scope_of file unit declarations root.str_base) (entries_of file unit declarations).ending) u
      (some declarations root.str_base u) e

  by_table : (r : Result (List Declaration) AbbrevFault) (u : List FuncEntry)
      → after_table file unit r ≡ Ok u → P u
  by_table (Err f) u e = cc
  by_table (Ok declarations) u e =
      by_root declarations (root_of (within_of file unit) declarations unit.first) u e

  pub in_unit : (u : List FuncEntry) → functions_of_unit_of file unit ≡ Ok u → P u
  in_unit u e = by_table (table_at (section_bytes AbbrevSection file) unit.abbrev_at) u e
