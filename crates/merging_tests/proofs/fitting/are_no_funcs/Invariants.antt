use Rattle.std.proofs.Common.{◌≢◌, take, All}
use Rattle.c_model.specs.declared.graph.CType.{CType}
use Rattle.c_model.specs.declared.kinds.TheConstants.{BTF_KIND_FUNC}
use Rattle.merging_tests.proofs.fitting.are_no_funcs.Given as goal

abbrev pub invariant-loop-node : goal.invariant-loop-node
invariant-loop-node l =
    All (λ (t : CType). t.label.kind ≢ BTF_KIND_FUNC) (take l.node-index l.nodes)
