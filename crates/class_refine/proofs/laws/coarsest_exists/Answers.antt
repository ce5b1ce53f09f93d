use Rattle.class_refine.proofs.Existence.{coarsest_exists}
use Rattle.class_refine.proofs.Indexes.{index_exists}
use Rattle.class_refine.proofs.Plain.{plain_exists}
use Rattle.class_refine.proofs.laws.coarsest_exists.Goals as goal

pub returns-clause-agreeing : goal.returns-clause-agreeing
returns-clause-agreeing c g index i ix fit = coarsest_exists g index i ix fit

pub returns-clause-plain : goal.returns-clause-plain
returns-clause-plain c nodes i = plain_exists nodes i

pub returns-clause-index : goal.returns-clause-index
returns-clause-index c g sound = index_exists g sound
