-- The table of abbreviations of a unit (DWARF 5, section 7.5.3), so that it may be read once for
-- all units that name its place.
use Rattle.std.specs.Prelude.{ℕ, ◌≡◌, List, Result, Ok, Err, ⊤}
use Rattle.elf_sections.specs.Sections.{section_bytes}
use Rattle.elf_sections.specs.declared.fault.Kind.TheVariants.{Abbrev as AbbrevSection}
use Rattle.dwarf_abbrev.specs.Declarations.{Declaration}
use Rattle.dwarf_abbrev.specs.Table.{table_at}
use Rattle.dwarf_abbrev.specs.declared.fault.AbbrevFault.{AbbrevFault}
use Rattle.type_attributes.specs.declared.fault.TypeFault.{TypeFault}
use Rattle.type_attributes.specs.declared.fault.TypeFault.TheVariants.{Abbrev, Memory}

-- the table at a place of a file's `.debug_abbrev`, or its first refusal
abbrev pub table_of : List ℕ → ℕ → Result (List Declaration) AbbrevFault
table_of file at = table_at (section_bytes AbbrevSection file) at

-- some declarations are that table
abbrev pub IsTableAt : List ℕ → ℕ → List Declaration → Type 0
IsTableAt file at declarations = table_of file at ≡ Ok declarations

-- what a reader of a table answers, unless memory ran out
abbrev pub GivesTable : Result (List Declaration) TypeFault
    → Result (List Declaration) AbbrevFault → Type 0
GivesTable (Ok declarations) read = read ≡ Ok declarations
GivesTable (Err (Abbrev f)) read = read ≡ Err f
GivesTable (Err Memory) read = ⊤
GivesTable (Err other) read = ⊥
