use Rattle.std.proofs.Common.{◌≡◌, take}
use Rattle.layout_printer.specs.Measuring.{farthest}
use Rattle.layout_printer.proofs.placing.farthest.Given as goal

-- the farthest end so far
abbrev pub invariant-loop-slot : goal.invariant-loop-slot
invariant-loop-slot l = l.end ≡ farthest (take l.slot-index l.slots)
