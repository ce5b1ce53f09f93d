use Rattle.c_types.proofs.Formed.Units.{types_formed}
use Rattle.c_types.proofs.laws.types_are_formed.Goals as goal

pub returns : goal.returns
returns c = types_formed
