use Rattle.std.proofs.Common.{◌≡◌, take}
use Rattle.packed_graph.proofs.pack.packed.Given as goal

abbrev pub invariant-loop-x : goal.invariant-loop-x
invariant-loop-x l = l.nodes ≡ take l.x l.graph.nodes
