use Rattle.std.proofs.Common.{◌≡◌, ◌++◌, map}
use Rattle.split_base.specs.Graphs.{moved_type}
use Rattle.split_base.proofs.graph.followed_by.Given as goal

abbrev pub invariant-loop-t : goal.invariant-loop-t
invariant-loop-t l = l.nodes.items ≡ l.fn.types.items ++ map (moved_type l.count) l.yielded
