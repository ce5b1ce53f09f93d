use Rattle.std.proofs.Common.{ℕ, ◌<◌, get_or}
use Rattle.c_model.specs.Kinds.{IsWellFormed}
use Rattle.c_model.specs.declared.graph.CType.{CType}
use Rattle.small_graphs.proofs.fitting.are_formed.Given as goal

abbrev pub invariant-loop-t : goal.invariant-loop-t
invariant-loop-t l = (k : ℕ) (d : CType) → k < l.t-index → IsWellFormed (get_or l.nodes k d)
