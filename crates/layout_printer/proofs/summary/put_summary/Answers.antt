use Rattle.std.proofs.Common.{◌++◌, List, ap, ◌∙◌, subst}
use Rattle.std.proofs.lemmas.Result.{on_ok_weaker}
use Rattle.layout_printer.specs.Text.{holes_text, last_line_text, padding_text, size_text}
use Rattle.layout_printer.specs.Totals.{AreTotals}
use Rattle.layout_printer.specs.declared.slots.Slot.{Slot}
use Rattle.layout_printer.proofs.Appending.{four}
use Rattle.layout_printer.proofs.Summing.{sums_are}
use Rattle.layout_printer.proofs.summary.put_summary.Goals as goal

pub returns : goal.returns
returns c =
    let shown = c.args.shown.now in
    let sums =
    subst (λ (ss : List Slot). AreTotals ss c.sum_up.result) c.items.ensures c.sum_up.ensures in
    on_ok_weaker c.put_last_line.result
    (four (size_text c.args.line shown) (holes_text shown.slots) (padding_text shown.padding)
    (last_line_text c.args.line shown.size)
    c.args.out.now.items c.put_size.new.out.items c.put_holes.new.out.items
    c.put_padding.new.out.items c.put_last_line.new.out.items
    c.in_ok-put_size.ensures
    (c.in_ok-put_holes.ensures
    ∙ ap (λ t. c.put_size.new.out.items ++ t) (sums_are shown.slots c.sum_up.result sums))
    c.in_ok-put_padding.ensures)
    c.put_last_line.ensures
