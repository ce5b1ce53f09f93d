use Rattle.unit_graph.proofs.Within.{linked_fine}
use Rattle.unit_graph.proofs.laws.graphs_are_within.Goals as goal

pub returns : goal.returns
returns c = λ units nodes g. linked_fine g.all nodes g.links
