use Rattle.std.proofs.Common.{vec_len}
use Rattle.layout_printer.proofs.Knowing.{IsReturning}
use Rattle.layout_printer.proofs.finding.go_back.Given as goal

-- the sizes behind the types left are found
abbrev pub invariant-loop-y : goal.invariant-loop-y
invariant-loop-y l = IsReturning l.types l.pointer l.fn.found l.found l.path.items l.size

abbrev pub decreases-loop-y : goal.decreases-loop-y
decreases-loop-y l = vec_len l.path
