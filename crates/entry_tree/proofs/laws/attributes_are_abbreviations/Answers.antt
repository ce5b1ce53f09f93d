use Rattle.entry_tree.proofs.Attributes.{has_is}
use Rattle.entry_tree.proofs.laws.attributes_are_abbreviations.Goals as goal

pub returns : goal.returns
returns c = has_is
