use Rattle.std.proofs.Common.{◌≡◌, length, rules, refl}
use Rattle.c_types.proofs.OpenFunctions.{made_closed, refused_closed}
use Rattle.c_types.proofs.functions.complete_function.Goals as goal

pub returns-clause-source : goal.returns-clause-source
returns-clause-source c =
    λ s. rw (
      ← c.into_inner-at.ensures,
      made_closed s c.into_inner-at.result,
      c.in_ok-source.ensures,
      c.deref.ensures.value,
      c.deref-2.ensures.value,
      c.in_ok-end_parameters.ensures.parts,
      c.in_ok-end_parameters.ensures.targets,
    ) refl

pub returns-clause-fault : goal.returns-clause-fault
returns-clause-fault c = λ s.
    let n : c.len-count.result ≡ length c.end_parameters.new.parts.items = search rules in
    rw (
      ← c.into_inner-at.ensures,
      refused_closed s c.into_inner-at.result,
      ← c.in_ok-end_parameters.ensures.parts,
      ← n,
    ) c.note_if.ensures
