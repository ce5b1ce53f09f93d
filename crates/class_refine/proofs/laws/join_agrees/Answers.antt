use Rattle.class_refine.proofs.Joins.{join_agrees, plain_join}
use Rattle.class_refine.proofs.laws.join_agrees.Goals as goal

pub returns-clause-agreeing : goal.returns-clause-agreeing
returns-clause-agreeing c g index p q i ix fit a b = join_agrees g index p q i ix fit a b

pub returns-clause-plain : goal.returns-clause-plain
returns-clause-plain c nodes p q i a b = plain_join nodes p q i a b
