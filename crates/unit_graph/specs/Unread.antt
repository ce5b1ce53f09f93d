-- A unit that can't be read has neither types nor entries, and one that an offset doesn't lie in
-- has none there.
use Rattle.std.specs.Prelude.{ℕ, ◌&&◌, nat_le, nat_lt, Bool, false, Option, None, Result, Ok, Err}
use Rattle.std.specs.Prelude.{alloc_error}
use Rattle.entry_tree.specs.declared.unit.Unit.{Unit}
use Rattle.dwarf_abbrev.specs.declared.fault.AbbrevFault.{AbbrevFault}
use Rattle.dwarf_abbrev.specs.declared.fault.AbbrevFault.TheVariants.{Memory as AbbrevMemory}
use Rattle.type_attributes.specs.declared.fault.TypeFault.{TypeFault}
use Rattle.type_attributes.specs.declared.fault.TypeFault.TheVariants.{Memory as TypeMemory}
use Rattle.std.specs.declared.alloc.AllocError.{AllocError}

abbrev pub unread_by : TypeFault → Result Bool AllocError
unread_by TypeMemory = Err alloc_error
unread_by other = Ok false

abbrev pub no_entries_by : AbbrevFault → Result (Option ℕ) AllocError
no_entries_by AbbrevMemory = Err alloc_error
no_entries_by other = Ok None

-- an offset lies in a unit, behind its header
abbrev pub lies_in : ℕ → Unit → Bool
lies_in to u = nat_le u.first to && nat_lt to u.end
