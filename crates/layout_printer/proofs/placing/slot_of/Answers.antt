use Rattle.std.proofs.Common.{◌≡◌, ◌∙◌, List, ap, ltb}
use Rattle.c_model.specs.declared.graph.CType.{CType}
use Rattle.layout_printer.specs.Sizes.{AreSizes}
use Rattle.layout_printer.specs.declared.slots.Slot.{Slot}
use Rattle.layout_printer.specs.Measuring.{farthest}
use Rattle.layout_printer.proofs.Holes.{hole_is}
use Rattle.layout_printer.proofs.Placed.{bits_field, bits_sized}
use Rattle.layout_printer.proofs.placing.slot_of.Goals as goal
use Rattle.layout_printer.proofs.placing.slot_of.Goals.{then-width-gt0, else-width-gt0+in-Some}

pub returns-clause-ok : goal.returns-clause-ok
returns-clause-ok c = λ (types : List CType) (earlier : List Slot)
    (a : AreSizes types c.args.sizes.now) (e : c.args.end ≡ farthest earlier). record {
      start = c.start_of-start.ensures;
      bits = elim c.if-width-gt0.branch [
        | then-width-gt0 w ↦ bits_field types c.args.sizes.now.pointer c.args.flag c.args.value
            c.args.target c.width_of-width.result c.if-width-gt0.bits c.width_of-width.ensures
            w.if-width-gt0.true w.bits-is
        | else-width-gt0+in-Some w ↦ bits_sized types c.args.sizes.now.pointer c.args.flag
            c.args.value c.args.target c.width_of-width.result c.if-width-gt0.bits w.in-Some.size
            c.width_of-width.ensures w.if-width-gt0.false (w.in-Some.ensures.value types a)
            (w.bits-is ∙ w.bits_in.ensures (w.in-Some.ensures.fits types a))
      ];
      field = ap (λ n. ltb 0 n) c.width_of-width.ensures;
      hole =
          hole_is earlier c.saturating_sub.result c.from.result c.start_of-start.result c.args.end
          c.saturating_sub.ensures c.from.ensures e;
    }
