use Rattle.std.proofs.Common.{◌≡◌, take}
use Rattle.split_base.proofs.graph.packed_types.Given as goal

abbrev pub invariant-loop-t : goal.invariant-loop-t
invariant-loop-t l = l.nodes ≡ take l.t-index l.types
