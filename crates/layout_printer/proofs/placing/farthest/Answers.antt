use Rattle.std.proofs.Common.{arith, false}
use Rattle.layout_printer.proofs.Holes.{farthest_more}
use Rattle.layout_printer.proofs.placing.farthest.Goals as goal

pub loop-slot-preserved : goal.loop-slot-preserved
loop-slot-preserved c =
    let e = farthest_more c.args.slots.now c.loop-slot.slot-index
    (record { start = 0; bits = 0; field = false; hole = 0 }) c.loop-slot-test.true in
    omega (arith, e, c.loop-slot.invariant, c.later-end.ensures, c.end_of.ensures)
