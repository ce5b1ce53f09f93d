use Rattle.std.proofs.Common.{◌≡◌, ◌++◌}
use Rattle.unit_encoder.specs.Functions.{of_file}
use Rattle.unit_encoder.proofs.functions.push_entries.Given as goal

abbrev pub invariant-loop-func : goal.invariant-loop-func
invariant-loop-func l = l.entries.items ≡ l.fn.entries.items ++ of_file l.file l.yielded
