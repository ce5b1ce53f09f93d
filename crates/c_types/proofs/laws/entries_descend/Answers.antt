use Rattle.c_types.proofs.Parenthood.{coming_descends}
use Rattle.c_types.proofs.laws.entries_descend.Goals as goal

pub returns : goal.returns
returns c = coming_descends
