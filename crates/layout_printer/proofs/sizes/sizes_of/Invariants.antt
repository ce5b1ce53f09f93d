use Rattle.std.proofs.Common.{◌<◌, ℕ, []}
use Rattle.layout_printer.specs.Finding.{AreFound, IsKnown}
use Rattle.layout_printer.proofs.sizes.sizes_of.Given as goal

-- the sizes of the types so far are found
abbrev pub invariant-loop-x : goal.invariant-loop-x
invariant-loop-x l = record {
  found : AreFound l.types l.pointer [] l.found.items;
  known : (y : ℕ) → y < l.x → IsKnown l.found.items y;
}
