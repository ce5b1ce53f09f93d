use Rattle.std.proofs.Common.{◌≡◌, ◌++◌, ◌-◌, ◌^◌, ◌∷◌, [], All, ap, subst, sym, ◌∙◌}
use Rattle.c_model.specs.Graph.{IsBelow}
use Rattle.c_model.specs.declared.graph.CType.{CType}
use Rattle.func_types.proofs.Building.{pushed_next}
use Rattle.func_types.proofs.nodes.push_nodes.Goals as goal

pub push-requires : goal.push-requires
push-requires c =
    subst (All (IsBelow (2 ^ 32 - 1))) (sym c.items.ensures)
    (subst (λ (t : CType). All (IsBelow (2 ^ 32 - 1)) t.targets) (sym c.node-item.is)
    (c.requires c.loop-node.node-index c.node-item.result c.loop-node-test.true))

pub loop-node-preserved : goal.loop-node-preserved
loop-node-preserved c =
    let node = c.node-item.result in
    let same : ◌≡◌ {A = CType} (record {
      label = c.in_ok-label.label;
      targets = c.items.result.now;
    }) node = λ i. record { label = c.in_ok-label.ensures i; targets = c.items.ensures i } in
    pushed_next c.args.more.now c.args.nodes.now c.loop-node.nodes c.push.new.self
    c.loop-node.node-index node c.loop-node-test.true c.node-item.is c.loop-node.invariant
    (c.in_ok-push.ensures.pushed ∙ ap (λ (t : CType). c.loop-node.nodes ++ t ∷ []) same)
