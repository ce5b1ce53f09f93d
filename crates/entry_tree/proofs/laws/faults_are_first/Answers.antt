use Rattle.entry_tree.proofs.Faults.{faults_are}
use Rattle.entry_tree.proofs.laws.faults_are_first.Goals as goal

pub returns : goal.returns
returns c = faults_are
