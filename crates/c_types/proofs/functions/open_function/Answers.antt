use Rattle.std.proofs.Common.{◌∙◌, refl, sym}
use Rattle.type_attributes.specs.Scopes.{scope}
use Rattle.c_types.proofs.OpenFunctions.{function_comes, empty_comes}
use Rattle.c_types.proofs.functions.open_function.Goals as goal

pub returns-then-is_bare-clause-comes : goal.returns-then-is_bare-clause-comes
returns-then-is_bare-clause-comes c = rw c.at.ensures (empty_comes (scope c.args.ctx.now) c.args.entry.now
    (sym c.type_target-target.ensures.value ∙ (c.if-is_bare.ensures refl).0)
    (sym c.type_target-target.ensures.noted ∙ (c.if-is_bare.ensures refl).1))

pub returns-clause-comes : goal.returns-clause-comes
returns-clause-comes c =
    function_comes (scope c.args.ctx.now) c.args.entry.now _
    (rw (
      ← c.type_target-target.ensures.value,
      ← c.type_target-target.ensures.noted,
      ← c.at-2.ensures,
    )
    c.in_ok-function.ensures)
