use Rattle.func_entries.proofs.Rising.{functions_in_order}
use Rattle.func_entries.proofs.laws.functions_rise.Goals as goal

pub returns : goal.returns
returns c = functions_in_order
