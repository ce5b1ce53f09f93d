use Rattle.std.proofs.Common.{◌≡◌, drop}
use Rattle.command_line.specs.Options.{settings}
use Rattle.command_line.specs.Words.{spelled_as}
use Rattle.command_line.proofs.uses.spelled_as.Given as goal

-- the word is spelled as one of the options that are left, if it is as one of all
abbrev pub invariant-loop-setting : goal.invariant-loop-setting
invariant-loop-setting l =
    spelled_as (drop l.setting-index settings) l.word ≡ spelled_as settings l.word
