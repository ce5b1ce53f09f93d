use Rattle.std.proofs.Common.{◌∷◌, map, take}
use Rattle.c_model.specs.declared.label.Part.{Part}
use Rattle.split_base.specs.Building.{ArePut}
use Rattle.split_base.proofs.names.put_type_names.Given as goal

abbrev pub invariant-loop-part : goal.invariant-loop-part
invariant-loop-part l = ArePut l.fn.strings
    (l.t.label.name ∷ map (λ (p : Part). p.name) (take l.part-index l.part-items)) l.strings
