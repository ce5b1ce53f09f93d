use Rattle.std.proofs.Common.{◌≡◌, ◌*◌, ◌/◌, ◌++◌, List, ap, ◌∙◌, arith}
use Rattle.std.proofs.lemmas.Result.{on_ok_weaker}
use Rattle.layout_printer.specs.Text.{boundary_line}
use Rattle.layout_printer.specs.Lines.{greatest_line}
use Rattle.layout_printer.specs.declared.slots.Slot.{Slot}
use Rattle.layout_printer.proofs.Boundaries.{boundary_none, boundary_some}
use Rattle.layout_printer.proofs.lines.put_boundary.Goals as goal

pub returns-then-number-greatest : goal.returns-then-number-greatest
returns-then-number-greatest c =
    λ (earlier : List Slot) (g : c.args.greatest ≡ greatest_line c.args.line earlier).
    boundary_none c.args.line earlier c.args.slot.now c.line_of-number.result c.args.greatest
    c.args.out.now.items c.line_of-number.ensures.value g c.if-number-greatest.true

pub overflow_mul-number : goal.overflow_mul-number
overflow_mul-number c =
    let e : c.line_of-number.result * c.from.result ≡ c.line_of-number.result * c.args.line =
    ap (λ n. c.line_of-number.result * n) c.from.ensures in
    omega (arith, e, c.line_of-number.ensures.within)

pub put_boundary_line-requires : goal.put_boundary_line-requires
put_boundary_line-requires c =
    let e : c.line_of-number.result * c.from.result ≡ c.line_of-number.result * c.args.line =
    ap (λ n. c.line_of-number.result * n) c.from.ensures in
    omega (arith, e, c.line_of-number.ensures.within)

pub returns : goal.returns
returns c = on_ok_weaker c.put_boundary_line.result
    (λ (e : c.put_boundary_line.new.out.items ≡ c.args.out.now.items ++ boundary_line
    c.line_of-number.result (c.line_of-number.result * c.from.result) (c.args.slot.now.start
    / 8)) (earlier : List Slot) (g : c.args.greatest ≡ greatest_line c.args.line earlier).
    e ∙ ap (λ t. c.args.out.now.items ++ t)
    (boundary_some c.args.line c.from.result earlier c.args.slot.now c.line_of-number.result
    c.args.greatest c.line_of-number.ensures.value c.from.ensures g c.if-number-greatest.false))
    c.put_boundary_line.ensures
