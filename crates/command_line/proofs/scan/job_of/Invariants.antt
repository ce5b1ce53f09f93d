use Rattle.std.proofs.Common.{◌-◌, length, map}
use Rattle.std.specs.Prelude.{string_bytes}
use Rattle.command_line.specs.Reading.{IsAt}
use Rattle.command_line.proofs.scan.job_of.Given as goal

-- the words before the position are read
abbrev pub invariant-loop-word : goal.invariant-loop-word
invariant-loop-word l = IsAt (map string_bytes l.words) l.at l.seen

abbrev pub decreases-loop-word : goal.decreases-loop-word
decreases-loop-word l = length l.words - l.at
