use Rattle.std.proofs.Common.{arith, ap, refl, sym, ◌∙◌}
use Rattle.std.proofs.lemmas.Bool.{false≢true}
use Rattle.c_model.specs.declared.label.Label.{Label}
use Rattle.func_merge.proofs.Telling.{IsInPlace, in_place, node_of_label, protos_behind, told_more}
use Rattle.func_merge.proofs.parted.are_protos_from.Goals as goal

pub loop-node-init : goal.loop-node-init
loop-node-init c = λ k t lt at ge. absurd (omega (arith, lt, ge))

pub loop-node-preserved : goal.loop-node-preserved
loop-node-preserved c =
    let t = node_of_label c.args.graph.now.nodes c.loop-node.node c.label.result.now
    c.label.ensures in
    told_more (IsInPlace c.args.plain) c.args.graph.now.nodes c.loop-node.node t.0 t.1
    (λ ge. ap (λ (l : Label). l.kind) t.2 ∙ c.if-kind-ne-BTF_KIND_FUNC_PROTO.false)
    c.loop-node.invariant

pub returns-then-kind-ne-BTF_KIND_FUNC_PROTO : goal.returns-then-kind-ne-BTF_KIND_FUNC_PROTO
returns-then-kind-ne-BTF_KIND_FUNC_PROTO c =
    let t = node_of_label c.args.graph.now.nodes c.loop-node.node c.label.result.now
    c.label.ensures in (
      λ h. absurd (false≢true h),
      λ has. absurd (c.if-kind-ne-BTF_KIND_FUNC_PROTO.true (sym (ap (λ (l : Label). l.kind) t.2)
          ∙ in_place c.args.plain c.args.graph.now.nodes c.loop-node.node t.0 t.1 has
          c.loop-node.auto.node)),
    )

pub returns : goal.returns
returns c = (
  λ h. protos_behind c.args.plain c.args.graph.now.nodes c.loop-node.node
      (omega (arith, c.loop-node-test.false, c.len-node-end.ensures.len)) c.loop-node.invariant,
  λ has. refl,
)
