use Rattle.std.proofs.Common.{slice_index}
use Rattle.c_model.specs.Partition.{targets_at}
use Rattle.split_base.specs.Table.{renamed}
use Rattle.split_base.proofs.Taking.{map-take_more}
use Rattle.split_base.proofs.types.renamed_node.Goals as goal

pub loop-i-preserved : goal.loop-i-preserved
loop-i-preserved b c =
    map-take_more (renamed (slice_index c.args.places.now))
    (targets_at (b.G.TypeGraph.shape c.args.graph.now).nodes c.args.x) c.loop-i.i
    c.target.result c.renamed_target.result _ _ c.target.ensures.target c.renamed_target.ensures
    c.loop-i.invariant c.in_ok-push.ensures.items
