use Rattle.std.proofs.Common.{◌*◌, ◌^◌, ◌≤◌, take}
use Rattle.layout_printer.specs.Totals.{AreTotals}
use Rattle.layout_printer.proofs.summary.sum_up.Given as goal

-- the sums so far; each member adds less than 2^64
abbrev pub invariant-loop-slot : goal.invariant-loop-slot
invariant-loop-slot l = record {
  sums : AreTotals (take l.slot-index l.slots) l.all;
  bits : l.all.bits ≤ l.slot-index * 2 ^ 64;
  byte_holes : l.all.byte_holes ≤ l.slot-index * 2 ^ 64;
  hole_bytes : l.all.hole_bytes ≤ l.slot-index * 2 ^ 64;
  bit_holes : l.all.bit_holes ≤ l.slot-index * 2 ^ 64;
  hole_bits : l.all.hole_bits ≤ l.slot-index * 2 ^ 64;
}
