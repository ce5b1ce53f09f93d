use Rattle.std.proofs.Common.{◌<◌, take, All}
use Rattle.func_types.specs.declared.protos.Func.{Func}
use Rattle.merging_tests.proofs.fitting.have_protos.Given as goal

abbrev pub invariant-loop-func : goal.invariant-loop-func
invariant-loop-func l = All (λ (f : Func). f.proto < l.limit) (take l.func-index l.funcs)
