use Rattle.split_base.proofs.Relations.{table_same}
use Rattle.split_base.proofs.laws.relation_has_one_table.Goals as goal

pub returns : goal.returns
returns c g p q sound cp cq one = table_same g p q sound cp cq one
