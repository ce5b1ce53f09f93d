use Rattle.c_model.proofs.Taking.{take-read}
use Rattle.split_base.proofs.types.base_types.Goals as goal

pub loop-x-preserved : goal.loop-x-preserved
loop-x-preserved b c =
    rw (
      take-read (b.G.TypeGraph.shape c.args.graph.now).nodes c.loop-x.x _
          c.in_ok-node_of.ensures,
      ← c.loop-x.invariant,
    ) c.in_ok-push.ensures.items
