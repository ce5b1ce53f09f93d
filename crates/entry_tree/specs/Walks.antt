-- What a walk has ahead of it.
use Rattle.std.specs.Prelude.{ℕ, ◌≡◌, List, [], Option, None, Some, Result, Ok, Err}
use Rattle.dwarf_abbrev.specs.Declarations.{Declaration}
use Rattle.dwarf_forms.specs.Values.{Within}
use Rattle.entry_tree.specs.declared.fault.WalkFault.{WalkFault}
use Rattle.entry_tree.specs.declared.walk.Next.{Next}
use Rattle.entry_tree.specs.declared.unit.Unit.{Unit}
use Rattle.entry_tree.specs.Contexts.{within_of}
use Rattle.entry_tree.specs.Items.{Given, Coming, with_first, coming_from}

-- what was found, and what comes after it
abbrev pub ahead : Within → List Declaration → ℕ → Result (Option Next) WalkFault → Coming
ahead c declarations first (Err f) = record { entries = []; ending = Some f }
ahead c declarations first (Ok None) = record { entries = []; ending = None }
ahead c declarations first (Ok (Some n)) =
    with_first n.entry (coming_from c declarations first n.at n.lists)

-- one step of a walk: the first entry that comes, or what ends the walk
abbrev pub Steps : Coming → Coming → Result (Option Given) WalkFault → Type 0
Steps old new (Ok (Some e)) = old ≡ with_first e new
Steps old new (Ok None) = (old ≡ record { entries = []; ending = None }) × (new ≡ old)
Steps old new (Err f) = (old ≡ record { entries = []; ending = Some f }) × (new ≡ old)

-- the entries of a unit, given what its values are read in and its abbreviations
abbrev pub entries_within : Within → Unit → List Declaration → Coming
entries_within c unit declarations = coming_from c declarations unit.first unit.first 0

-- the same of a unit of a file
abbrev pub entries_of : List ℕ → Unit → List Declaration → Coming
entries_of file unit = entries_within (within_of file unit) unit
