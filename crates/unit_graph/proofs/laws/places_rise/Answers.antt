use Rattle.c_types.proofs.Standing.{types_in_order}
use Rattle.unit_graph.proofs.Rising.{gathered_rise}
use Rattle.unit_graph.proofs.laws.places_rise.Goals as goal

pub returns : goal.returns
returns c = gathered_rise types_in_order
