use Rattle.std.proofs.Common.{◌≡◌, ◌++◌}
use Rattle.graph_cases.proofs.merged.followed_by.Given as goal

abbrev pub invariant-loop-t : goal.invariant-loop-t
invariant-loop-t l = l.nodes.items ≡ l.fn.types.items ++ l.yielded
