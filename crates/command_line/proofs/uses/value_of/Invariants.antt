use Rattle.std.proofs.Common.{◌≡◌, drop}
use Rattle.command_line.specs.Words.{value_of}
use Rattle.command_line.proofs.uses.value_of.Given as goal

-- the option is among those that are left, if it is among all
abbrev pub invariant-loop-entry : goal.invariant-loop-entry
invariant-loop-entry l = value_of (drop l.entry-index l.uses) l.setting ≡ value_of l.uses l.setting
