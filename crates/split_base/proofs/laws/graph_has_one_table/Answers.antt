use Rattle.split_base.proofs.Relations.{merged_same}
use Rattle.split_base.proofs.laws.graph_has_one_table.Goals as goal

pub returns : goal.returns
returns c g types others sound m o = merged_same g types others sound m o
