use Rattle.std.proofs.Common.{◌≡◌, map, take, slice_index}
use Rattle.c_model.specs.Partition.{targets_at}
use Rattle.split_base.specs.Table.{renamed}
use Rattle.split_base.proofs.types.renamed_node.Given as goal

abbrev pub invariant-loop-i : goal.invariant-loop-i
invariant-loop-i b l = l.targets.items ≡ map (renamed (slice_index l.places))
    (take l.i (targets_at (b.G.TypeGraph.shape l.graph).nodes l.x))
