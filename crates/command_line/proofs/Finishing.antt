-- The job that is made.
use Rattle.std.proofs.Common.{Bool, true, false, ◌≡◌, ℕ, ◌-◌, ◌^◌, ◌<◌, ◌≤◌, List, [], length, Some}
use Rattle.std.proofs.Common.{None, Option, Result, Err, sym, refl, arith, unwrap_or, leb, drop}
use Rattle.std.proofs.Common.{subst}
use Rattle.std.specs.Prelude.{if◌then◌else◌, ◌&&◌}
use Rattle.std.specs.Option.{option_map, option_and_then}
use Rattle.std.proofs.lemmas.Bool.Decides.{nat_tests}
use Rattle.std.specs.Str.Parse.{digits_value}
use Rattle.command_line.specs.declared.job.Job.{Job}
use Rattle.command_line.specs.declared.job.UsageFault.{UsageFault}
use Rattle.command_line.specs.declared.job.JobFault.{JobFault}
use Rattle.command_line.specs.declared.options.Setting.{Setting}
use Rattle.command_line.specs.declared.options.Setting.TheVariants.{Out, Selfmade, Jobs, Line}
use Rattle.command_line.specs.Values.{number, is_decimal, jobs, line, made_number, file_name}
use Rattle.command_line.specs.Words.{jobs_wanted, job_by, files_of, jobs_of, line_of, value_of}
use Rattle.command_line.specs.Words.{nothing, roles, word_fault, whole_fault, usage, job_with}
use Rattle.command_line.specs.Words.{job_unless, job_of_roles, job_of_words, read, Before, first_of}
use Rattle.command_line.specs.Words.{Gives}
use Rattle.command_line.specs.Reading.{Reached, IsAt, ReadsOn}
use Rattle.command_line.specs.declared.scan.Seen.{Seen}
use Rattle.command_line.specs.declared.job.JobFault.TheVariants.{Usage, Memory}
use Rattle.command_line.proofs.Steps.{ended}

-- a number that is read lies between its bounds
number_within : (low high d n : ℕ) (b : Bool)
    → (if (b && leb low d) && leb d high then Some d else None) ≡ Some n → (low ≤ n) × (n ≤ high)
number_within low high d n true e = grind (arith, nat_tests)
number_within low high d n false e = absurd (cc)

within_or : (o : Option ℕ) → ((n : ℕ) → o ≡ Some n → (1 ≤ n) × (n ≤ 256))
    → (1 ≤ unwrap_or o 1) × (unwrap_or o 1 ≤ 256)
within_or None h = (omega arith, omega arith)
within_or (Some n) h = h n refl

jobs_range_of : (o : Option (List ℕ))
    → (1 ≤ unwrap_or (option_and_then jobs o) 1) × (unwrap_or (option_and_then jobs o) 1 ≤ 256)
jobs_range_of None = (omega arith, omega arith)
jobs_range_of (Some v) =
    within_or (jobs v) (λ n e. number_within 1 256 (digits_value 10 v) n (is_decimal v) e)

jobs_same : (n : Option ℕ) (o : Option (List ℕ)) (us : List (Setting × List ℕ)) (fs : List (List ℕ))
    → jobs_of (job_by n o us fs) ≡ jobs_wanted us
jobs_same (Some n) o us fs = refl
jobs_same None (Some out) us fs = refl
jobs_same None None us fs = refl

files_few_of : (n : Option ℕ) (o : Option (List ℕ)) (us : List (Setting × List ℕ))
    (fs : List (List ℕ)) (k : ℕ) → length fs < k → length (files_of (job_by n o us fs)) < k
files_few_of (Some n) o us fs k h = omega arith
files_few_of None (Some out) us fs k h = h
files_few_of None None us fs k h = h

-- a job has 1 to 256 workers
pub jobs_in_range : (us : List (Setting × List ℕ)) (fs : List (List ℕ))
    → (1 ≤ jobs_of (job_with us fs)) × (jobs_of (job_with us fs) ≤ 256)
jobs_in_range us fs =
    rw (jobs_same (read made_number Selfmade us) (read file_name Out us) us fs)
    (jobs_range_of (value_of us Jobs))

-- a cache line has at least 1 byte
line_or : (o : Option ℕ) → ((n : ℕ) → o ≡ Some n → 1 ≤ n) → 1 ≤ unwrap_or o 64
line_or None h = omega arith
line_or (Some n) h = h n refl

line_range_of : (o : Option (List ℕ)) → 1 ≤ unwrap_or (option_and_then line o) 64
line_range_of None = omega arith
line_range_of (Some v) = line_or (line v)
    (λ n e. (number_within 1 (2 ^ 32 - 1) (digits_value 10 v) n (is_decimal v) e).0)

line_by : (n : Option ℕ) (o : Option (List ℕ)) (us : List (Setting × List ℕ)) (fs : List (List ℕ))
    → 1 ≤ line_of (job_by n o us fs)
line_by (Some n) o us fs = omega arith
line_by None (Some out) us fs = omega arith
line_by None None us fs = line_range_of (value_of us Line)

pub line_above : (us : List (Setting × List ℕ)) (fs : List (List ℕ)) → 1 ≤ line_of (job_with us fs)
line_above us fs = line_by (read made_number Selfmade us) (read file_name Out us) us fs

-- a fault of a word
pub job_refused : (ws : List (List ℕ)) (u : UsageFault) → word_fault [] (roles nothing ws) ≡ Some u
    → job_of_words ws ≡ Err u
unfolding job_of_words
job_refused ws u e = rw e

-- at the end
pub job_told :
    (ws : List (List ℕ)) (b : Before) (at count : ℕ) (us : List (Setting × List ℕ))
    (fs : List (List ℕ)) (r : Result Job JobFault)
    → Reached ws b at us fs → None ≡ first_of (drop at ws) → count ≡ length ws
    → Gives r (job_unless (option_map (usage count) (whole_fault us (length fs)))
    (job_with us fs)) → Gives r (job_of_words ws)
unfolding job_of_words
job_told ws b at count us fs r k none number h =
    let at_end = ended ws b at us fs k (sym none) in
    let whole : job_unless (option_map (usage count) (whole_fault us (length fs))) (job_with us fs)
    ≡ job_of_roles (length ws) (roles nothing ws) =
    rw (at_end.0, at_end.1, at_end.2, number) in
    subst (λ (v : Result Job UsageFault). Gives r v) whole h

-- where the reading of a word stops, so does that of the words
stopped_by :
    (ws : List (List ℕ)) (at : ℕ) (old new : Seen) (e : JobFault) → IsAt ws at old
    → ReadsOn ws at old new (Err e)
    → Gives {A = Job} (Err e) (job_of_words ws)
stopped_by ws at old new (Usage u) k h = job_refused ws u (h k)
stopped_by ws at old new Memory k h = tt

pub job_stopped :
    (ws : List (List ℕ)) (at : ℕ) (old new : Seen) (e : JobFault) (r : Result Job JobFault)
    → IsAt ws at old → ReadsOn ws at old new (Err e) → r ≡ Err e → Gives r (job_of_words ws)
job_stopped ws at old new e r k h is = rw is (stopped_by ws at old new e k h)
