-- The job of words. Each word has one role, decided by the words before it.
use Rattle.std.specs.Prelude.{ℕ, ◌≡◌, List, [], ◌∷◌, ◌++◌, drop, length, Bool, true, false}
use Rattle.std.specs.Prelude.{if◌then◌else◌, Option, None, Some, Result, Ok, Err, codes}
use Rattle.std.specs.Prelude.{slice_index, ◌==◌, ◌&&◌, ◌||◌, not, nat_eq, nat_lt, is_some}
use Rattle.std.specs.Prelude.{unwrap_or, option_and_then}
use Rattle.std.specs.List.{list_any, starts_with}
use Rattle.std.specs.Option.{option_or, option_map}
use Rattle.std.specs.Str.{bytes_eq}
use Rattle.command_line.specs.declared.job.Format.{Format}
use Rattle.command_line.specs.declared.job.Format.TheVariants.{Dwarf, Btf}
use Rattle.command_line.specs.declared.job.Job.{Job}
use Rattle.command_line.specs.declared.job.Job.TheVariants.{Encode, Show, Selfmade as Made}
use Rattle.command_line.specs.declared.job.UsageFault.{UsageFault}
use Rattle.command_line.specs.declared.job.JobFault.{JobFault}
use Rattle.command_line.specs.declared.job.JobFault.TheVariants.{Usage, Memory}
use Rattle.command_line.specs.declared.options.Setting.{Setting}
use Rattle.command_line.specs.declared.options.Setting.TheVariants.{Out, Base, Selfmade, Names}
use Rattle.command_line.specs.declared.options.Setting.TheVariants.{Holes, Line, Format as Shape}
use Rattle.command_line.specs.declared.options.Setting.TheVariants.{Sizes, Jobs, Funcs}
use Rattle.command_line.specs.declared.options.ValuePlace.{ValuePlace}
use Rattle.command_line.specs.declared.usage_codes.TheConstants as usages
use Rattle.command_line.specs.declared.options.ValuePlace.TheVariants.{NextWord, SameWord}
use Rattle.command_line.specs.Values.{made_number, holes, line, jobs, file_name, names, format}
use Rattle.command_line.specs.Options.{row, settings, showing, is_same}

-- the role of a word: an option of the table, with its value if it is there; another word that
-- begins with `-`; the value of the option before it; the first `--`; a file
pub data Role : Type 0 where
  option : Setting → Option (List ℕ) → Role
  unknown : Role
  value : Role
  dashes : Role
  file : List ℕ → Role

-- what the words before a word make of it: nothing, the value of an option, or a file, behind `--`
pub data Before : Type 0 where
  nothing : Before
  awaits_value : Before
  only_files : Before

-- what stands behind the spelling of an option, where a word is so spelled
abbrev pub behind_spelling : ValuePlace → List ℕ → List ℕ → Option (List ℕ)
behind_spelling SameWord spelling w =
    if starts_with nat_eq w spelling then Some (drop (length spelling) w) else None
behind_spelling _ spelling w = if bytes_eq w spelling then Some [] else None

-- the first of some options as which a word is spelled, with what stands behind the spelling
abbrev pub spelled_as : List Setting → List ℕ → Option (Setting × List ℕ)
spelled_as [] w = None
spelled_as (s ∷ ss) w =
    option_or (option_map (λ (v : List ℕ). (s, v))
    (behind_spelling (row s).place (row s).spelling w)) (spelled_as ss w)

-- `-`, and a word that does not begin with `-`
abbrev pub is_file : List ℕ → Bool
is_file w = not (slice_index w 0 == 45) || length w == 1

abbrev pub first_of : List (List ℕ) → Option (List ℕ)
first_of [] = None
first_of (w ∷ ws) = Some w

-- the value of an option, by what stands behind its spelling, and the words behind its word
abbrev pub value_at : ValuePlace → List ℕ → List (List ℕ) → Option (List ℕ)
value_at NextWord rest ws = first_of ws
value_at _ rest ws = Some rest

abbrev pub option_role : Option (Setting × List ℕ) → List (List ℕ) → Role
option_role None ws = unknown
option_role (Some o) ws = option o.0 (value_at (row o.0).place o.1 ws)

-- the role of a word before other words
abbrev pub role : Before → List ℕ → List (List ℕ) → Role
role only_files w ws = file w
role awaits_value w ws = value
role nothing w ws =
    if is_file w then file w
    else (if bytes_eq w (codes "--") then dashes else option_role (spelled_as settings w) ws)

abbrev pub behind_option : ValuePlace → Before
behind_option NextWord = awaits_value
behind_option _ = nothing

-- what a word of this role makes of the next word
abbrev pub behind : Before → Role → Before
behind only_files r = only_files
behind b (option s v) = behind_option (row s).place
behind b dashes = only_files
behind b _ = nothing

abbrev pub roles : Before → List (List ℕ) → List Role
roles b [] = []
roles b (w ∷ ws) = role b w ws ∷ roles (behind b (role b w ws)) ws

-- the options with their values, and the files
abbrev pub uses : List Role → List (Setting × List ℕ)
uses [] = []
uses (option s (Some v) ∷ rs) = (s, v) ∷ uses rs
uses (_ ∷ rs) = uses rs

abbrev pub files : List Role → List (List ℕ)
files [] = []
files (file w ∷ rs) = w ∷ files rs
files (_ ∷ rs) = files rs

abbrev pub value_of : List (Setting × List ℕ) → Setting → Option (List ℕ)
value_of [] s = None
value_of (u ∷ us) s = if is_same s u.0 then Some u.1 else value_of us s

abbrev pub is_used : List (Setting × List ℕ) → Setting → Bool
is_used us s = is_some (value_of us s)

-- what is wrong with an option that is not repeated: the value is missing, or bad
abbrev pub value_fault : Setting → Option (List ℕ) → Option ℕ
value_fault s None = Some usages.MISSING_VALUE
value_fault s (Some v) = if (row s).good v then None else Some usages.BAD_VALUE

-- what is wrong with a word, after the use of some options
abbrev pub code_after : List (Setting × List ℕ) → Role → Option ℕ
code_after us unknown = Some usages.UNKNOWN_OPTION
code_after us (option s v) = if is_used us s then Some usages.REPEATED_OPTION else value_fault s v
code_after us _ = None

abbrev pub usage : ℕ → ℕ → UsageFault
usage at code = record { word = at; code = code }

-- the fault of the first word that has one; a word's position is the number of words before it
abbrev pub word_fault : List Role → List Role → Option UsageFault
word_fault before [] = None
word_fault before (r ∷ rs) =
    option_or (option_map (usage (length before)) (code_after (uses before) r))
    (word_fault (before ++ r ∷ []) rs)

-- the value of an option as its reader gives it
abbrev pub read : {A : Type 0} → (List ℕ → Option A) → Setting → List (Setting × List ℕ) → Option A
read reader s us = option_and_then reader (value_of us s)

abbrev pub format_of : List (Setting × List ℕ) → Format
format_of us = unwrap_or (read format Shape us) Dwarf

abbrev pub is_btf : Format → Bool
is_btf Btf = true
is_btf Dwarf = false

-- options that don't go together
abbrev pub are_apart : List (Setting × List ℕ) → Bool
are_apart us =
    (is_used us Out && (list_any (is_used us) showing || is_used us Selfmade))
    || (is_used us Selfmade && (list_any (is_used us) showing || is_used us Base))
    || (is_used us Base && not (is_used us Out) && not (is_btf (format_of us)))
    || (is_used us Funcs && not (is_used us Out))

-- what is wrong with all words together, by the options and the number of files
abbrev pub whole_fault : List (Setting × List ℕ) → ℕ → Option ℕ
whole_fault us count =
    if are_apart us then Some usages.CONFLICTING_OPTIONS
    else (if count == 0 && not (is_used us Selfmade) then Some usages.NO_FILE
    else (if (is_used us Selfmade && nat_lt 0 count) || (is_btf (format_of us) && nat_lt 1 count)
    then Some usages.TOO_MANY_FILES else None))

abbrev pub jobs_wanted : List (Setting × List ℕ) → ℕ
jobs_wanted us = unwrap_or (read jobs Jobs us) 1

abbrev pub job_by : Option ℕ → Option (List ℕ) → List (Setting × List ℕ) → List (List ℕ) → Job
job_by (Some number) out us fs = Made number (jobs_wanted us)
job_by None (Some out) us fs =
    Encode out (read file_name Base us) (jobs_wanted us) fs (is_used us Funcs)
job_by None None us fs =
    Show (format_of us) (read file_name Base us) (read names Names us) (is_used us Sizes)
    (unwrap_or (read holes Holes us) 0) (unwrap_or (read line Line us) 64) (jobs_wanted us) fs

-- each option has its value, or its default
abbrev pub job_with : List (Setting × List ℕ) → List (List ℕ) → Job
job_with us fs = job_by (read made_number Selfmade us) (read file_name Out us) us fs

abbrev pub job_unless : Option UsageFault → Job → Result Job UsageFault
job_unless None job = Ok job
job_unless (Some fault) job = Err fault

-- the first word that has a fault, then what is wrong with all words, then the job
abbrev pub job_of_roles : ℕ → List Role → Result Job UsageFault
job_of_roles count rs =
    job_unless (option_or (word_fault [] rs)
    (option_map (usage count) (whole_fault (uses rs) (length (files rs)))))
    (job_with (uses rs) (files rs))

unfoldable pub job_of_words : List (List ℕ) → Result Job UsageFault
job_of_words ws = job_of_roles (length ws) (roles nothing ws)

-- what a reader of words answers; want of memory is free
abbrev pub Gives : {A : Type 0} → Result A JobFault → Result A UsageFault → Type 0
Gives (Ok x) wanted = wanted ≡ Ok x
Gives (Err (Usage fault)) wanted = wanted ≡ Err fault
Gives (Err Memory) wanted = Unit {0}

-- the files of a job, and its number of workers
abbrev pub files_of : Job → List (List ℕ)
files_of (Encode _ _ _ fs _) = fs
files_of (Show _ _ _ _ _ _ _ fs) = fs
files_of (Made _ _) = []

abbrev pub jobs_of : Job → ℕ
jobs_of (Encode _ _ n _ _) = n
jobs_of (Show _ _ _ _ _ _ n _) = n
jobs_of (Made _ n) = n

-- the names of the types that a job shows, and the size of a cache line; none, and 1, where it
-- shows no layouts
abbrev pub names_of : Job → List (List ℕ)
names_of (Encode _ _ _ _ _) = []
names_of (Show _ _ None _ _ _ _ _) = []
names_of (Show _ _ (Some ns) _ _ _ _ _) = ns
names_of (Made _ _) = []

abbrev pub line_of : Job → ℕ
line_of (Encode _ _ _ _ _) = 1
line_of (Show _ _ _ _ _ l _ _) = l
line_of (Made _ _) = 1
