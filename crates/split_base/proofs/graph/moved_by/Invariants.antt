use Rattle.std.proofs.Common.{◌≡◌, ◌++◌, map, take, drop}
use Rattle.split_base.specs.Graphs.{moved}
use Rattle.split_base.proofs.graph.moved_by.Given as goal

abbrev pub invariant-loop-target : goal.invariant-loop-target
invariant-loop-target l = l.target-items ≡ map (moved l.fn.count)
    (take l.target-index l.fn.t.targets) ++ drop l.target-index l.fn.t.targets
