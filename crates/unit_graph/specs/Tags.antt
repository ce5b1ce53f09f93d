-- The tag of the entry at a place, which may be no type.
use Rattle.std.specs.Prelude.{ℕ, ◌==◌, ◌&&◌, Bool, false, List, [], ◌∷◌, Option, None, Some, Result}
use Rattle.std.specs.Prelude.{Ok, Err, if◌then◌else◌}
use Rattle.elf_sections.specs.Sections.{section_bytes}
use Rattle.elf_sections.specs.declared.fault.Kind.TheVariants.{Abbrev as AbbrevSection}
use Rattle.dwarf_abbrev.specs.Declarations.{Declaration}
use Rattle.dwarf_abbrev.specs.Table.{table_at}
use Rattle.dwarf_abbrev.specs.declared.fault.AbbrevFault.{AbbrevFault}
use Rattle.entry_tree.specs.Items.{Given}
use Rattle.entry_tree.specs.Walks.{entries_of}
use Rattle.c_types.specs.Types.{types_of_unit_of}
use Rattle.type_attributes.specs.declared.source.UnitTypes.{UnitTypes}
use Rattle.type_attributes.specs.declared.fault.TypeFault.{TypeFault}
use Rattle.unit_graph.specs.Sources.{FileUnit}

-- the tag of the entry at a place: of a unit of the file that is read, and 0 where none begins
-- there
abbrev pub tag_in : ℕ → List Given → Option ℕ
tag_in to [] = None
tag_in to (e ∷ es) = if e.at == to then Some e.tag else tag_in to es

abbrev pub entries_by : FileUnit → Result (List Declaration) AbbrevFault → List Given
entries_by u (Err f) = []
entries_by u (Ok declarations) = (entries_of u.bytes u.unit declarations).entries

abbrev pub entries_in : FileUnit → List Given
entries_in u = entries_by u (table_at (section_bytes AbbrevSection u.bytes) u.unit.abbrev_at)

abbrev pub is_read : Result UnitTypes TypeFault → Bool
is_read (Ok t) = t.read
is_read (Err f) = false

abbrev pub tag_at : ℕ → ℕ → FileUnit → Option ℕ
tag_at file to u = if u.file == file && is_read (types_of_unit_of u.bytes u.unit)
    then tag_in to (entries_in u) else None

abbrev pub or_later : Option ℕ → ℕ → ℕ
or_later (Some tag) later = tag
or_later None later = later

unfoldable pub tag_of : ℕ → ℕ → List FileUnit → ℕ
tag_of file to [] = 0
tag_of file to (u ∷ us) = or_later (tag_at file to u) (tag_of file to us)
