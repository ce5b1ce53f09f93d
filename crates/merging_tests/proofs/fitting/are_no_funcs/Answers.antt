use Rattle.std.proofs.Common.{◌≢◌, subst}
use Rattle.std.proofs.lemmas.List.{take_all}
use Rattle.std.proofs.lemmas.List.Elements.{All-more}
use Rattle.c_model.specs.declared.graph.CType.{CType}
use Rattle.c_model.specs.declared.kinds.TheConstants.{BTF_KIND_FUNC}
use Rattle.merging_tests.proofs.fitting.are_no_funcs.Goals as goal

pub loop-node-preserved : goal.loop-node-preserved
loop-node-preserved c =
    All-more (λ (t : CType). t.label.kind ≢ BTF_KIND_FUNC) c.args.nodes.now c.loop-node.node-index
    c.node-item.result c.loop-node-test.true c.loop-node.invariant
    (subst (λ (t : CType). t.label.kind ≢ BTF_KIND_FUNC) c.node-item.is
    c.if-node-eq-BTF_KIND_FUNC.false)

pub returns : goal.returns
returns c t = rw (take_all c.loop-node.node-index c.args.nodes.now c.loop-node-test.false) at
    c.loop-node.invariant
