use Rattle.unit_graph.proofs.Formed.{units_fine, well, fits}
use Rattle.unit_graph.proofs.laws.graphs_are_formed.Goals as goal

pub returns : goal.returns
returns c = λ units g of. let fine = units_fine units of.all g.nodes of.gathers of.links in
    (well g.nodes fine, fits g fine)
