-- What the definitions say of every run.
use Rattle.std.specs.Prelude.{ℕ, ◌≡◌, ◌↔◌, ◌<◌, ◌^◌, List, All, Option, None, Some}
use Rattle.dw_base.specs.declared.places.Limits.{Limits}
use Rattle.world_io.specs.declared.files.HeldFile.{HeldFile}
use Rattle.command_line.specs.declared.job.Format.TheVariants.{Btf}
use Rattle.command_line.specs.declared.job.Job.{Job}
use Rattle.pahole_run.specs.declared.refusal.Refusal.{Refusal}
use Rattle.pahole_run.specs.Promises.{EachFirst, IsFirst}
use Rattle.pahole_run.specs.Refusals.{TheTypes}
use Rattle.pahole_run.specs.Tasks.{Task, task_of}

-- a file holds bytes, and so does each of some files
abbrev pub HoldsBytes : HeldFile → Type 0
HoldsBytes file = All (λ (b : ℕ). b < 256) file.bytes

abbrev pub HoldBytes : List HeldFile → Type 0
HoldBytes held = All HoldsBytes held

-- an image that is made is an ELF file
abbrev pub MakesElf : Task → Type 0
MakesElf task = task.format ≡ Btf → task.made ≡ None

-- for all limits, held files and tasks there is exactly one table that they have, where numbers are
-- as their types hold them
abbrev pub TasksHaveOneTable : Type 0
TasksHaveOneTable = (limits : Limits) (held : List HeldFile) (task : Task)
    → limits.nodes < 2 ^ 32 → HoldBytes held → MakesElf task → TheTypes limits held task

-- so it is with jobs
abbrev pub JobsHaveOneTable : Type 0
JobsHaveOneTable = (limits : Limits) (held : List HeldFile) (job : Job)
    → limits.nodes < 2 ^ 32 → HoldBytes held → TheTypes limits held (task_of job)

-- and whatever table the files of a task have, they have one first refusal, or none
abbrev pub TasksHaveOneRefusal : Type 0
TasksHaveOneRefusal = (limits : Limits) (held : List HeldFile) (task : Task)
    → limits.nodes < 2 ^ 32 → HoldBytes held → MakesElf task
    → (first : Option Refusal) × EachFirst limits held task first
    × ((refusal : Refusal) → IsFirst limits held task refusal ↔ (first ≡ Some refusal))
