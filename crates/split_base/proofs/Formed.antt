-- The form of a type does not depend on what its references refer to.
use Rattle.std.proofs.Common.{map, ◌∙◌}
use Rattle.std.proofs.lemmas.List.{length-map}
use Rattle.c_model.specs.declared.graph.CType.{CType}
use Rattle.c_model.specs.declared.graph.Ref.{Ref}
use Rattle.c_model.specs.Kinds.{IsWellFormed}

-- a type with other references in the places of its own is well formed as it was
pub retargeted_formed : (f : Ref → Ref) (t : CType) → IsWellFormed t
    → IsWellFormed (record { label = t.label; targets = map f t.targets })
retargeted_formed f t w = record {
  row = w.row;
  of_kind = w.of_kind;
  name = w.name;
  flag = w.flag;
  size = w.size;
  extra = w.extra;
  targets = length-map t.targets f ∙ w.targets;
  few = w.few;
  parts = w.parts;
}
