use Rattle.unit_graph.proofs.Numbering.{numbers}
use Rattle.unit_graph.proofs.laws.rows_are_numbers.Goals as goal

pub returns : goal.returns
returns c = λ all p. numbers p 0 all
