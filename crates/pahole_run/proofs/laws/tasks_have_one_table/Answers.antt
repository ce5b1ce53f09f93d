use Rattle.pahole_run.specs.Tasks.{task_of}
use Rattle.pahole_run.proofs.OneTable.{jobs_make_elf, one_refusal, one_table}
use Rattle.pahole_run.proofs.laws.tasks_have_one_table.Goals as goal

pub returns-clause-tasks : goal.returns-clause-tasks
returns-clause-tasks c = one_table

pub returns-clause-jobs : goal.returns-clause-jobs
returns-clause-jobs c limits held job small all =
    one_table limits held (task_of job) small all (jobs_make_elf job)

pub returns-clause-refusals : goal.returns-clause-refusals
returns-clause-refusals c limits held task small all elf =
    one_refusal limits held task (one_table limits held task small all elf)
