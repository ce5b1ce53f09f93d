use Rattle.dw_base.proofs.Digits.{IsReading}
use Rattle.dw_base.proofs.leb128.long_uleb.Given as goal

abbrev pub invariant-loop-i : goal.invariant-loop-i
invariant-loop-i l = IsReading l.bytes l.at l.i l.sum
