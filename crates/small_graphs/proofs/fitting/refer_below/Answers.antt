use Rattle.std.proofs.Common.{take, All, subst, refl}
use Rattle.std.proofs.lemmas.List.{take_more, take_all}
use Rattle.std.proofs.lemmas.List.Elements.{All-push}
use Rattle.c_model.specs.declared.graph.CType.{CType}
use Rattle.c_model.specs.Graph.{IsBelow}
use Rattle.small_graphs.proofs.fitting.refer_below.Goals as goal

pub loop-node-preserved : goal.loop-node-preserved
loop-node-preserved c =
    let here = rw c.items.ensures at (c.are_below.ensures.0 c.if-not-are_below.false) in
    let there = subst (λ (t : CType). All (IsBelow c.args.limit) t.targets) c.node-item.is here in
    rw (take_more c.args.nodes.now c.loop-node.node-index c.node-item.result c.loop-node-test.true)
    (All-push (λ (t : CType). All (IsBelow c.args.limit) t.targets)
    (take c.loop-node.node-index c.args.nodes.now) _ c.loop-node.invariant there)

pub returns : goal.returns
returns c = (
  λ t. rw (take_all c.loop-node.node-index c.args.nodes.now c.loop-node-test.false) at
      c.loop-node.invariant,
  λ all. refl,
)
