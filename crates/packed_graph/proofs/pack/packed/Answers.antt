use Rattle.packed_graph.proofs.Packing.{targets-below, pushed-node}
use Rattle.packed_graph.proofs.pack.packed.Goals as goal

pub push-requires : goal.push-requires
push-requires c =
    targets-below c.args.graph.now.nodes c.len-x-end.ensures.sound.few c.len-x-end.ensures.within
    c.loop-x.x c.node-node.result.now c.node-node.ensures c.items.result.now c.items.ensures

pub loop-x-preserved : goal.loop-x-preserved
loop-x-preserved c = pushed-node c.args.graph.now.nodes c.loop-x.x c.node-node.result.now
    c.in_ok-label.label c.items.result.now c.loop-x.nodes c.push.new.self c.node-node.ensures
    c.in_ok-label.ensures c.items.ensures c.loop-x.invariant c.in_ok-push.ensures.pushed
