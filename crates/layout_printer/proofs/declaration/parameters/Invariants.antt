use Rattle.std.proofs.Common.{◌≡◌}
use Rattle.std.specs.List.{flat_map, range_with_len}
use Rattle.layout_printer.specs.Declarations.{parameter_at}
use Rattle.layout_printer.proofs.declaration.parameters.Given as goal

-- the parameters so far
abbrev pub invariant-loop-place : goal.invariant-loop-place
invariant-loop-place l =
    l.out.items ≡ flat_map (parameter_at l.types l.r) (range_with_len 0 l.place)
