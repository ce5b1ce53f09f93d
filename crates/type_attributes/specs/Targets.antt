-- What a type refers to: the list that its targets are.
use Rattle.std.specs.Prelude.{List, [], ◌∷◌}
use Rattle.type_attributes.specs.declared.source.Target.{Target}
use Rattle.type_attributes.specs.declared.source.OneOrMany.{OneOrMany}
use Rattle.type_attributes.specs.declared.source.OneOrMany.TheVariants.{One, Many}

abbrev pub targets_in : OneOrMany → List Target
targets_in (One target) = target ∷ []
targets_in (Many targets) = targets.items
