use Rattle.func_entries.proofs.Formed.{functions_formed}
use Rattle.func_entries.proofs.laws.functions_are_formed.Goals as goal

pub returns : goal.returns
returns c = functions_formed
