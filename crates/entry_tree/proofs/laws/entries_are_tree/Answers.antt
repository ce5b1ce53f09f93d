use Rattle.entry_tree.proofs.Tiling.{entries_are}
use Rattle.entry_tree.proofs.laws.entries_are_tree.Goals as goal

pub returns : goal.returns
returns c = entries_are
