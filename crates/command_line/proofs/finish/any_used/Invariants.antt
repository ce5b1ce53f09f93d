use Rattle.std.proofs.Common.{◌≡◌, drop}
use Rattle.std.specs.List.{list_any}
use Rattle.command_line.specs.Words.{is_used}
use Rattle.command_line.proofs.finish.any_used.Given as goal

-- one that is left is used, if one of all is
abbrev pub invariant-loop-setting : goal.invariant-loop-setting
invariant-loop-setting l = list_any (is_used l.uses) (drop l.setting-index l.settings)
    ≡ list_any (is_used l.uses) l.settings
