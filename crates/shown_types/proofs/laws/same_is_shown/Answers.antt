use Rattle.shown_types.proofs.Alike.{answer_one, layout_one, text_one}
use Rattle.shown_types.proofs.laws.same_is_shown.Goals as goal

pub returns-clause-layout : goal.returns-clause-layout
returns-clause-layout c = layout_one

pub returns-clause-text : goal.returns-clause-text
returns-clause-text c = text_one

pub returns-clause-answer : goal.returns-clause-answer
returns-clause-answer c = answer_one
