use Rattle.std.proofs.Common.{take, All}
use Rattle.c_model.specs.Graph.{IsBelow}
use Rattle.small_graphs.proofs.fitting.are_below.Given as goal

abbrev pub invariant-loop-target : goal.invariant-loop-target
invariant-loop-target l = All (IsBelow l.limit) (take l.target-index l.targets)
