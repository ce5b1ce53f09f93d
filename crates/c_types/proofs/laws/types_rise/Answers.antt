use Rattle.c_types.proofs.Standing.{types_in_order}
use Rattle.c_types.proofs.laws.types_rise.Goals as goal

pub returns : goal.returns
returns c = types_in_order
