use Rattle.std.proofs.Common.{◌≡◌, drop}
use Rattle.std.specs.List.{find}
use Rattle.layout_printer.specs.Sizes.{is_long}
use Rattle.layout_printer.proofs.sizes.pointer_of.Given as goal

-- no type so far is a `long`
abbrev pub invariant-loop-t : goal.invariant-loop-t
invariant-loop-t l = find is_long (drop l.t-index l.t-items) ≡ find is_long l.table.types
