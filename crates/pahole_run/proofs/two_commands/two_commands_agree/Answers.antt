use Rattle.pahole_run.proofs.Again.{stored_again, stored_alike}
use Rattle.pahole_run.proofs.two_commands.two_commands_agree.Goals as goal

pub returns-clause-types : goal.returns-clause-types
returns-clause-types c = stored_again

pub returns-clause-shown : goal.returns-clause-shown
returns-clause-shown c = stored_alike
