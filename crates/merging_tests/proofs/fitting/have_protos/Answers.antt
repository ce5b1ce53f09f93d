use Rattle.std.proofs.Common.{◌<◌, subst}
use Rattle.std.proofs.lemmas.List.{take_all}
use Rattle.std.proofs.lemmas.List.Elements.{All-more}
use Rattle.func_types.specs.declared.protos.Func.{Func}
use Rattle.merging_tests.proofs.fitting.have_protos.Goals as goal

pub loop-func-preserved : goal.loop-func-preserved
loop-func-preserved c =
    All-more (λ (f : Func). f.proto < c.args.limit) c.args.funcs.now c.loop-func.func-index
    c.func-item.result c.loop-func-test.true c.loop-func.invariant
    (subst (λ (f : Func). f.proto < c.args.limit) c.func-item.is c.if-func-limit.false)

pub returns : goal.returns
returns c t = rw (take_all c.loop-func.func-index c.args.funcs.now c.loop-func-test.false) at
    c.loop-func.invariant
