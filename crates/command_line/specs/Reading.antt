-- How words are read: what is known at a position.
use Rattle.std.specs.Prelude.{ℕ, ◌≡◌, ◌+◌, ◌<◌, List, [], ◌∷◌, ◌++◌, drop, length, Bool, true}
use Rattle.std.specs.Prelude.{false, None, Some, Result, Ok, Err}
use Rattle.command_line.specs.declared.job.JobFault.{JobFault}
use Rattle.command_line.specs.declared.job.JobFault.TheVariants.{Usage, Memory}
use Rattle.command_line.specs.declared.scan.Seen.{Seen}
use Rattle.command_line.specs.declared.options.Setting.{Setting}
use Rattle.command_line.specs.declared.options.ValuePlace.{ValuePlace}
use Rattle.command_line.specs.declared.options.ValuePlace.TheVariants.{NextWord}
use Rattle.command_line.specs.Options.{row}
use Rattle.command_line.specs.Words.{Role, Before, nothing, only_files, option_role, roles, uses}
use Rattle.command_line.specs.Words.{files, code_after, word_fault}

-- the words before a position have no fault, and these options and files
pub record Reached (ws : List (List ℕ)) (b : Before) (at : ℕ) (us : List (Setting × List ℕ))
    (fs : List (List ℕ)) : Type 0 where
  pub before : List Role
  pub count : length before ≡ at
  pub whole : before ++ roles b (drop at ws) ≡ roles nothing ws
  pub fault : word_fault before (roles b (drop at ws)) ≡ word_fault [] (roles nothing ws)
  pub uses_are : us ≡ uses before
  pub files_are : fs ≡ files before

abbrev pub before_by : Bool → Before
before_by true = only_files
before_by false = nothing

abbrev pub IsAt : List (List ℕ) → ℕ → Seen → Type 0
IsAt ws at s = Reached ws (before_by s.only_files) at s.uses.items s.files.items

-- what the reading of one word at a position gives: the position of the next, or the fault
abbrev pub ReadsOn : List (List ℕ) → ℕ → Seen → Seen → Result ℕ JobFault → Type 0
ReadsOn ws at old new (Ok next) = (at < next) × (IsAt ws at old → IsAt ws next new)
ReadsOn ws at old new (Err (Usage fault)) =
    IsAt ws at old → word_fault [] (roles nothing ws) ≡ Some fault
ReadsOn ws at old new (Err Memory) = Unit {0}

-- the number of words that an option and its value take
abbrev pub width : ValuePlace → ℕ
width NextWord = 2
width _ = 1

-- what the reading of an option at a position gives, before other words
abbrev pub ReadsOption : List (List ℕ) → ℕ → Setting × List ℕ → Seen → Seen
    → Result ℕ JobFault → Type 0
ReadsOption ws at o old new (Ok next) =
    (next ≡ at + width (row o.0).place)
    × (code_after old.uses.items (option_role (Some o) ws) ≡ None)
    × (new.uses.items ≡ old.uses.items ++ uses (option_role (Some o) ws ∷ []))
    × (new.files.items ≡ old.files.items) × (new.only_files ≡ old.only_files)
ReadsOption ws at o old new (Err (Usage fault)) =
    (fault.word ≡ at) × (code_after old.uses.items (option_role (Some o) ws) ≡ Some fault.code)
ReadsOption ws at o old new (Err Memory) = Unit {0}
