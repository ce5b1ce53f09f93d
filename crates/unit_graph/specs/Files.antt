-- The units of a file.
use Rattle.std.specs.Prelude.{ℕ, List, [], map, Result}
use Rattle.std.specs.Result.{result_unwrap_or}
use Rattle.elf_sections.specs.Header.{order_of}
use Rattle.elf_sections.specs.Sections.{section_bytes}
use Rattle.elf_sections.specs.declared.fault.Kind.TheVariants.{Info}
use Rattle.entry_tree.specs.Units.{units_of}
use Rattle.entry_tree.specs.declared.unit.Unit.{Unit}
use Rattle.entry_tree.specs.declared.unit.UnitFault.{UnitFault}
use Rattle.unit_graph.specs.Sources.{FileUnit}

-- the headers of a file's units, or why one is refused
abbrev pub headers_of : List ℕ → Result (List Unit) UnitFault
headers_of bytes = units_of (section_bytes Info bytes) (order_of bytes)

-- a unit of the file of this number
abbrev pub unit_in : ℕ → List ℕ → Unit → FileUnit
unit_in file bytes unit = record { file = file; bytes = bytes; unit = unit }

-- the units of the file of this number; none where a header is refused
abbrev pub units_in : ℕ → List ℕ → List FileUnit
units_in file bytes = map (unit_in file bytes) (result_unwrap_or (headers_of bytes) [])
