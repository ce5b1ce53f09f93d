use Rattle.c_model.specs.Partition.{targets_at}
use Rattle.class_halves.proofs.Starting.{code_by-read}
use Rattle.class_halves.proofs.start.start_key.Goals as goal

pub loop-i-preserved : goal.loop-i-preserved
loop-i-preserved g c = code_by-read (targets_at (g.G.TypeGraph.shape c.args.graph.now).nodes
    c.args.x) c.loop-i.i c.args.number c.code.result c.target.result c.loop-i.items.items _
    c.target.ensures.target c.code.ensures c.loop-i.invariant c.in_ok-push-2.ensures.items
