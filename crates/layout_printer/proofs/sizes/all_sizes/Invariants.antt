use Rattle.std.proofs.Common.{◌≡◌, map, take}
use Rattle.std.specs.Option.{option_flatten}
use Rattle.layout_printer.proofs.sizes.all_sizes.Given as goal

-- the sizes so far
abbrev pub invariant-loop-size : goal.invariant-loop-size
invariant-loop-size l = l.items.items ≡ map option_flatten (take l.size-index l.found)
