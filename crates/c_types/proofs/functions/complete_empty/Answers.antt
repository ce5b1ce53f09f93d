use Rattle.std.proofs.Common.{sym, refl}
use Rattle.c_types.proofs.OpenFunctions.{empty_made_closed, empty_refused_closed}
use Rattle.c_types.proofs.functions.complete_empty.Goals as goal

pub returns-clause-source : goal.returns-clause-source
returns-clause-source c = λ s. rw (
  empty_made_closed s c.args.at,
  c.make_label.ensures,
  c.new.ensures,
  c.one.ensures,
) refl

pub returns-clause-fault : goal.returns-clause-fault
returns-clause-fault c = λ s. sym (empty_refused_closed s c.args.at)
