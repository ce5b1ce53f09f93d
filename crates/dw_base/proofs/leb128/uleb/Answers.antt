use Rattle.std.proofs.Common.{arith}
use Rattle.dw_base.proofs.Digits.{one_digit}
use Rattle.dw_base.proofs.leb128.uleb.Goals as goal

pub returns-then-first-lt128 : goal.returns-then-first-lt128
returns-then-first-lt128 c =
    one_digit c.args.bytes.now c.args.at c.from.result (omega arith) (omega (arith, c.from.ensures))
    (omega arith)
