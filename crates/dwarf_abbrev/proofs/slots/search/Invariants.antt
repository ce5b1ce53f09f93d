use Rattle.std.proofs.Common.{◌≡◌, take, false}
use Rattle.dwarf_abbrev.specs.ValueMaps.{has_spec}
use Rattle.dwarf_abbrev.proofs.slots.search.Given as goal

abbrev pub invariant-loop-index : goal.invariant-loop-index
invariant-loop-index l = has_spec l.name (take l.index l.specs) ≡ false
