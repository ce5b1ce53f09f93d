use Rattle.std.proofs.Common.{◌≡◌, ◌++◌}
use Rattle.layout_printer.specs.Pieces.{spaces}
use Rattle.layout_printer.proofs.pieces.put_spaces.Given as goal

-- the spaces so far
abbrev pub invariant-loop : goal.invariant-loop
invariant-loop l = l.out.items ≡ l.initial.out.items ++ spaces l.counter
