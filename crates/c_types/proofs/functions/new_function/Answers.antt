use Rattle.std.proofs.Common.{◌∷◌, ◌++◌, [], ◌∙◌, List, refl, ap}
use Rattle.type_attributes.specs.declared.source.Target.{Target}
use Rattle.c_types.proofs.functions.new_function.Goals as goal

pub returns : goal.returns
returns c = rw c.in_ok-new.ensures.ok (record {
  at_is = refl;
  parts = c.parts.ensures;
  targets = c.in_ok-push.ensures.items ∙ ap
      (λ (ts : List Target). ts ++ c.args.target ∷ []) c.targets-targets.ensures;
  variadic = refl;
  least_is = refl;
})
