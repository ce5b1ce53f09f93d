use Rattle.std.proofs.Common.{◌∙◌, [], sym, refl}
use Rattle.c_types.proofs.OpenArrays.{made_is, refused_by_length}
use Rattle.c_types.proofs.arrays.complete_array.Goals as goal

pub returns-clause-source : goal.returns-clause-source
returns-clause-source c = rw (
  ← c.into_inner-array.ensures,
  made_is c.into_inner-array.result [],
  c.new.ensures,
  c.elements.ensures,
  c.new-2.ensures,
  c.new-3.ensures,
  c.new-2.ensures.items,
  c.in_ok-two_targets.ensures,
) refl

pub returns-clause-fault : goal.returns-clause-fault
returns-clause-fault c =
    rw (← c.into_inner-array.ensures) (c.note_if.ensures
    ∙ rw c.are_too_long.ensures (sym (refused_by_length c.into_inner-array.result [])))
