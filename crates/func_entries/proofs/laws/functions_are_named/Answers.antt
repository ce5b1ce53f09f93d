use Rattle.func_entries.proofs.Formed.{functions_named}
use Rattle.func_entries.proofs.laws.functions_are_named.Goals as goal

pub returns : goal.returns
returns c = functions_named
