use Rattle.std.proofs.Common.{◌++◌, ◌∙◌, ap, false, get_or, take, arith}
use Rattle.layout_printer.specs.Text.{slot_text}
use Rattle.layout_printer.specs.Declarations.{DeclParts}
use Rattle.layout_printer.specs.declared.slots.Slot.{Slot}
use Rattle.layout_printer.proofs.Membering.{members_more}
use Rattle.layout_printer.proofs.Boundaries.{greatest_more}
use Rattle.layout_printer.proofs.lines.put_members.Goals as goal

pub loop-place-preserved : goal.loop-place-preserved
loop-place-preserved c =
    let none : Slot = record { start = 0; bits = 0; field = false; hole = 0 } in
    let slots = c.args.slots.now in
    let earlier = take c.loop-place.place slots in
    record {
      written =
          members_more c.args.types.now c.args.r c.args.line slots c.loop-place.place none
          c.args.out.now.items c.loop-place.out.items c.put_member.new.out.items
          c.loop-place-test.true c.loop-place.invariant.written
          (c.in_ok-put_member.ensures earlier c.loop-place.invariant.greatest
          ∙ ap (λ (w : DeclParts). c.loop-place.out.items
          ++ slot_text c.args.line earlier w (get_or slots c.loop-place.place none))
          c.in_ok-declaration.ensures);
      greatest =
          let e = greatest_more c.args.line slots c.loop-place.place none c.loop-place-test.true in
          omega (
            arith,
            e,
            c.loop-place.invariant.greatest,
            c.later_line-greatest.ensures,
            c.line_of.ensures.value,
          );
    }
