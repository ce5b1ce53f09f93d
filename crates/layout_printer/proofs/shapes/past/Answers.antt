use Rattle.std.proofs.Common.{sym, ap, ◌∙◌}
use Rattle.layout_printer.specs.Declarations.{is_passed, past}
use Rattle.layout_printer.proofs.Declaring.{past_stop, past_on, past_end}
use Rattle.layout_printer.proofs.shapes.past.Goals as goal

pub returns-then-not-is_passed : goal.returns-then-not-is_passed
returns-then-not-is_passed c = past_stop 64 c.loop.counter c.args.types.now c.loop.at
    (past 64 c.args.types.now c.args.r) c.loop-test.true
    (sym (c.is_passed.ensures ∙ ap is_passed c.kind_of.ensures)
    ∙ c.if-not-is_passed.true) c.loop.invariant

pub loop-preserved : goal.loop-preserved
loop-preserved c = past_on 64 c.loop.counter c.args.types.now c.loop.at c.member_type-at.result
    (past 64 c.args.types.now c.args.r) c.loop-test.true
    (sym (c.is_passed.ensures ∙ ap is_passed c.kind_of.ensures)
    ∙ c.if-not-is_passed.false) c.member_type-at.ensures c.loop.invariant

pub returns : goal.returns
returns c = past_end 64 c.loop.counter c.args.types.now c.loop.at
    (past 64 c.args.types.now c.args.r) c.loop-test.false c.loop.invariant
