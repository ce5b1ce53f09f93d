use Rattle.std.proofs.Common.{◌≡◌, take}
use Rattle.split_base.proofs.types.base_types.Given as goal

abbrev pub invariant-loop-x : goal.invariant-loop-x
invariant-loop-x b l = l.types.items ≡ take l.x (b.G.TypeGraph.shape l.graph).nodes
