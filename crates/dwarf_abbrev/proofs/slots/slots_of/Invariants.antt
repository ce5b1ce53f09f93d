use Rattle.std.proofs.Common.{◌≡◌, length}
use Rattle.dwarf_abbrev.specs.ValueMaps.{ArePlaces}
use Rattle.dwarf_abbrev.proofs.slots.slots_of.Given as goal

abbrev pub invariant-loop-index : goal.invariant-loop-index
invariant-loop-index l = record {
  places : ArePlaces l.specs l.index l.slots;
  count : length l.slots ≡ 15;
}
