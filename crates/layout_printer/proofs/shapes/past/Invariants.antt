use Rattle.std.proofs.Common.{◌≡◌, ◌-◌}
use Rattle.layout_printer.specs.Declarations.{past}
use Rattle.layout_printer.proofs.shapes.past.Given as goal

-- what stands behind the rest
abbrev pub invariant-loop : goal.invariant-loop
invariant-loop l = past (64 - l.counter) l.types l.at ≡ past 64 l.types l.fn.r
