use Rattle.c_types.proofs.Firsts.{first_is_least}
use Rattle.c_types.proofs.laws.least_is_first.Goals as goal

pub returns : goal.returns
returns c = first_is_least
