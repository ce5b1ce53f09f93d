use Rattle.std.proofs.Common.{◌≡◌, ◌++◌}
use Rattle.unit_encoder.proofs.functions.append.Given as goal

abbrev pub invariant-loop-one : goal.invariant-loop-one
invariant-loop-one l = l.entries.items ≡ l.fn.entries.items ++ l.yielded
