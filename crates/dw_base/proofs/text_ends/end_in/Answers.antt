use Rattle.std.proofs.Common.{◌+◌, ◌^◌, ◌<◌, arith, subst, sym}
use Rattle.dw_base.specs.Ends.{IsFirstNul}
use Rattle.dw_base.proofs.NulBits.{end_by_bits, end_by_block}
use Rattle.dw_base.proofs.text_ends.end_in.Goals as goal

fits : (c : goal.After-from) → c.args.block.nul < 2 ^ 64
fits c = omega arith

here : (c : goal.After-from) → IsFirstNul c.args.bytes.now c.args.at (c.args.at + c.from.result)
here c = subst (λ n. IsFirstNul c.args.bytes.now c.args.at (c.args.at + n)) (sym c.from.ensures)
    (end_by_bits c.args.bytes.now c.args.block c.args.at c.requires (fits c)
    (omega (arith, c.if-bits-eq0.false)))

pub overflow_add-result : goal.overflow_add-result
overflow_add-result c = omega (arith, (here c).inside)

pub returns-then-bits-eq0 : goal.returns-then-bits-eq0
returns-then-bits-eq0 c =
    end_by_block c.args.bytes.now c.args.block c.args.at c.requires c.if-bits-eq0.true

pub returns-else-bits-eq0 : goal.returns-else-bits-eq0
returns-else-bits-eq0 c = here c
