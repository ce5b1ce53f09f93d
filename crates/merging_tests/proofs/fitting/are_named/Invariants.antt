use Rattle.std.proofs.Common.{ℕ, ◌<◌, get_or}
use Rattle.dw_base.specs.Texts.{HasNoNul}
use Rattle.func_types.specs.declared.protos.Func.{Func}
use Rattle.merging_tests.proofs.fitting.are_named.Given as goal

abbrev pub invariant-loop-func : goal.invariant-loop-func
invariant-loop-func l = (k : ℕ) (d : Func) → k < l.func-index → HasNoNul (get_or l.funcs k d).name
