-- The functions of one unit of a file, or its first refusal; a unit of a language that is passed
-- over has none.
use Rattle.std.specs.Prelude.{ℕ, List, [], Option, None, Some, Result, Ok, Err, if◌then◌else◌}
use Rattle.std.specs.Result.{result_map_both}
use Rattle.elf_sections.specs.Sections.{section_bytes}
use Rattle.elf_sections.specs.declared.fault.Kind.TheVariants.{Abbrev as AbbrevSection}
use Rattle.dwarf_abbrev.specs.Declarations.{Declaration}
use Rattle.dwarf_abbrev.specs.Table.{table_at}
use Rattle.dwarf_abbrev.specs.declared.fault.AbbrevFault.{AbbrevFault}
use Rattle.entry_tree.specs.Contexts.{within_of}
use Rattle.entry_tree.specs.Roots.{root_of}
use Rattle.entry_tree.specs.Walks.{entries_of}
use Rattle.entry_tree.specs.declared.unit.Unit.{Unit}
use Rattle.entry_tree.specs.declared.roots.RootInfo.{RootInfo}
use Rattle.entry_tree.specs.declared.fault.WalkFault.{WalkFault}
use Rattle.type_attributes.specs.declared.fault.TypeFault.{TypeFault}
use Rattle.type_attributes.specs.declared.fault.TypeFault.TheVariants.{Abbrev, Walk}
use Rattle.type_attributes.specs.declared.source.UnitTypes.{UnitTypes}
use Rattle.type_attributes.specs.Faults.{least}
use Rattle.type_attributes.specs.Scopes.{Scope, scope_of}
use Rattle.c_types.specs.Types.{is_passed_over}
use Rattle.func_entries.specs.declared.entries.FuncEntry.{FuncEntry}
use Rattle.func_entries.specs.declared.entries.UnitEntries.{UnitEntries}
use Rattle.func_entries.specs.Functions.{functions_of, refusals_of}

-- where nothing is refused, else the first refusal by place, number and what is kept
abbrev pub or_least : List FuncEntry → Option TypeFault → Result (List FuncEntry) TypeFault
or_least funcs None = Ok funcs
or_least funcs (Some f) = Err f

abbrev pub or_walk : Option WalkFault → Result (List FuncEntry) TypeFault
    → Result (List FuncEntry) TypeFault
or_walk None r = r
or_walk (Some f) r = Err (Walk f)

-- of a walk: its own fault comes before all refusals of functions
abbrev pub functions_in : Scope → Option WalkFault → Result (List FuncEntry) TypeFault
functions_in s ending =
    or_walk ending (or_least (functions_of s.sections s.entries)
    (least (refusals_of s.sections s.entries)))

-- the steps of a unit: its abbreviations, its root, and its entries
abbrev pub after_root : List ℕ → Unit → List Declaration → Result RootInfo WalkFault
    → Result (List FuncEntry) TypeFault
after_root file unit declarations (Err f) = Err (Walk f)
after_root file unit declarations (Ok root) =
    if is_passed_over root.language then Ok [] else functions_in
    (scope_of file unit declarations root.str_base) (entries_of file unit declarations).ending

abbrev pub after_table : List ℕ → Unit → Result (List Declaration) AbbrevFault
    → Result (List FuncEntry) TypeFault
after_table file unit (Err f) = Err (Abbrev f)
after_table file unit (Ok declarations) =
    after_root file unit declarations (root_of (within_of file unit) declarations unit.first)

-- the functions of a unit of a file, or its first refusal
abbrev pub functions_of_unit_of : List ℕ → Unit → Result (List FuncEntry) TypeFault
functions_of_unit_of file unit =
    after_table file unit (table_at (section_bytes AbbrevSection file) unit.abbrev_at)

-- the types among what was found of a unit, which is refused where they are
abbrev pub types_among : Result UnitEntries TypeFault → Result UnitTypes TypeFault
types_among r = result_map_both (λ (u : UnitEntries). u.types) (λ (f : TypeFault). f) r
