use Rattle.command_line.proofs.Finishing.{jobs_in_range, line_above}
use Rattle.command_line.proofs.finish.finished.Goals as goal

pub returns-clause-jobs : goal.returns-clause-jobs
returns-clause-jobs c = rw c.in_ok-job.ensures (jobs_in_range c.args.uses.now _)

pub returns-clause-line : goal.returns-clause-line
returns-clause-line c = rw c.in_ok-job.ensures (line_above c.args.uses.now _)
