use Rattle.std.proofs.Common.{◌≡◌, ◌<◌, ℕ, List, length}
use Rattle.c_model.specs.declared.graph.CType.{CType}
use Rattle.layout_printer.specs.Layout.{IsSlotAt}
use Rattle.layout_printer.specs.Measuring.{farthest}
use Rattle.layout_printer.specs.Sizes.{AreSizes}
use Rattle.layout_printer.proofs.placing.slots_of.Given as goal

-- the slots so far, and their farthest end
abbrev pub invariant-loop-k : goal.invariant-loop-k
invariant-loop-k l = record {
  count : length l.slots.items ≡ l.k;
  each : (types : List CType) → AreSizes types l.sizes → (j : ℕ) → j < l.k
      → IsSlotAt types l.sizes.pointer l.t l.slots.items j;
  end : l.end ≡ farthest l.slots.items;
}
