use Rattle.c_types.proofs.Parenthood.{unit_children_are}
use Rattle.c_types.proofs.laws.children_have_parent.Goals as goal

pub returns : goal.returns
returns c = unit_children_are
