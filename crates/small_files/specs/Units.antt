-- When a file has units, and why it has none.
use Rattle.std.specs.Prelude.{ℕ, ◌≡◌, ◌+◌, ◌≤◌, ◌^◌, ⊤, List, Err, Some, None, IsOk}
use Rattle.elf_sections.specs.Checks.{refusal_of}
use Rattle.entry_tree.specs.Contexts.{IsUnitOf}
use Rattle.entry_tree.specs.Units.{Gives}
use Rattle.entry_tree.specs.declared.unit.Unit.{Unit}
use Rattle.unit_graph.specs.Files.{headers_of}
use Rattle.small_files.specs.declared.units.NoUnits.{NoUnits}
use Rattle.small_files.specs.declared.units.NoUnits.TheVariants.{File, Header, Long, Memory}

-- no check refuses the file, nor a header of its units
abbrev pub HasUnits : List ℕ → Type 0
HasUnits bytes = (refusal_of bytes ≡ None) × IsOk (headers_of bytes)

-- why a file has no units
abbrev pub IsWhy : List ℕ → NoUnits → Type 0
IsWhy bytes (File fault) = refusal_of bytes ≡ Some fault
IsWhy bytes (Header fault) = Gives (Err fault) (headers_of bytes)
IsWhy bytes Long = (u : Unit) × IsUnitOf bytes u × (u.at + 2 ^ 32 ≤ u.end)
IsWhy bytes (Memory _) = ⊤
