use Rattle.entry_tree.proofs.Rising.{entries_placed}
use Rattle.entry_tree.proofs.laws.entries_rise.Goals as goal

pub returns : goal.returns
returns c = entries_placed
