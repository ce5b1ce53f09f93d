use Rattle.std.proofs.Common.{arith, rules}
use Rattle.command_line.proofs.Numbers.{number_not_read}
use Rattle.command_line.proofs.values.number.Goals as goal

pub returns-in_default : goal.returns-in_default
returns-in_default c =
    number_not_read _ c.args.low c.args.high c.args.value.now c.parse.result c.in_default.field-0
    (search rules)
    c.parse.ensures.value.0 c.in_default.is (omega arith)
