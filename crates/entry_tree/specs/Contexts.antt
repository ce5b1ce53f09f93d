-- What the values of a unit of a file are read in.
use Rattle.std.specs.Prelude.{ℕ, ◌≡◌, List, take, Ok}
use Rattle.dwarf_forms.specs.Values.{Within}
use Rattle.dwarf_forms.specs.Meanings.{Sections}
use Rattle.elf_sections.specs.Header.{order_of}
use Rattle.entry_tree.specs.Images.{info_of, strings_of, line_strings_of, str_offsets_of}
use Rattle.entry_tree.specs.Units.{unit_at}
use Rattle.entry_tree.specs.declared.unit.Unit.{Unit}

-- the unit is the one whose header stands at its place
abbrev pub IsUnitOf : List ℕ → Unit → Type 0
IsUnitOf file unit = unit_at (info_of file) (order_of file) unit.at ≡ Ok unit

-- the unit's bytes, and how its numbers lie
abbrev pub within_of : List ℕ → Unit → Within
within_of file unit =
    record {
      unit = take unit.end (info_of file);
      order = order_of file;
      offset_bytes = unit.offset_bytes;
      address_bytes = unit.address_bytes;
    }

-- what its names and references are read in
abbrev pub sections_of : List ℕ → Unit → ℕ → Sections
sections_of file unit str_base =
    record {
      unit = unit.at;
      order = order_of file;
      offset_bytes = unit.offset_bytes;
      strings = strings_of file;
      line_strings = line_strings_of file;
      str_offsets = str_offsets_of file;
      str_base = str_base;
    }
