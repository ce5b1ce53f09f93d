-- Reading a table gives what the standard lays out.
use Rattle.std.specs.Prelude.{ℕ, ◌≡◌, ◌↔◌, List, Result, Ok, Err, ⊤}
use Rattle.dwarf_abbrev.specs.Declarations.{Declaration}
use Rattle.dwarf_abbrev.specs.Table.{table_at}
use Rattle.dwarf_abbrev.specs.Standard.{IsTable}
use Rattle.dwarf_abbrev.specs.Refusals.{IsRefused}
use Rattle.dwarf_abbrev.specs.declared.fault.AbbrevFault.{AbbrevFault}
use Rattle.dwarf_abbrev.specs.declared.fault.AbbrevFault.TheVariants.{Memory}

-- what is read is the table that stands there, and a table that stands there is read
abbrev pub TablesAreRead : Type 0
TablesAreRead = (bytes : List ℕ) (at : ℕ) (declarations : List Declaration)
    → (table_at bytes at ≡ Ok declarations) ↔ IsTable bytes at declarations

-- a table is refused for the first piece that can't be read
abbrev pub RefusalsAreFirst : Type 0
RefusalsAreFirst =
    (bytes : List ℕ) (at : ℕ) (f : AbbrevFault) → (table_at bytes at ≡ Err f) ↔ IsRefused bytes at f

-- an answer of a reader, in the standard's words: the table that stands there, or the fault of the
-- first piece that can't be read, or want of memory
abbrev pub Reads : List ℕ → ℕ → Result (List Declaration) AbbrevFault → Type 0
Reads bytes at (Ok declarations) = IsTable bytes at declarations
Reads bytes at (Err Memory) = ⊤
Reads bytes at (Err f) = IsRefused bytes at f
