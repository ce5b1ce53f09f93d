use Rattle.std.proofs.Common.{◌*◌, List, sym, ap, ◌∙◌, refl, subst}
use Rattle.layout_printer.specs.declared.slots.Slot.{Slot}
use Rattle.layout_printer.specs.Layout.{AreSlots}
use Rattle.layout_printer.specs.Measuring.{farthest}
use Rattle.layout_printer.proofs.Placed.{type_read}
use Rattle.layout_printer.proofs.Holes.{hole_is}
use Rattle.layout_printer.proofs.placing.layout_by_sizes.Goals as goal

pub returns-clause-ok : goal.returns-clause-ok
returns-clause-ok c = record {
  t = c.index-types-id.result;
  found = type_read c.args.table.now.types c.items-types.result.now c.args.id c.requires.structure.t
      c.index-types-id.result c.items-types.ensures c.requires.structure.found c.index-types-id.is;
  same = refl;
  size = refl;
  slots = subst (λ (ss : List Slot). AreSlots c.args.table.now.types c.args.sizes.now.pointer
      c.index-types-id.result ss) (sym c.new.ensures)
      (c.in_ok-slots.ensures.ok c.args.table.now.types c.requires.sizes);
  padding = hole_is c.new.result c.saturating_sub-padding.result (8 * c.from.result)
      (8 * c.index-types-id.result.label.size) c.farthest-end.result
      c.saturating_sub-padding.ensures (ap (λ n. 8 * n) c.from.ensures)
      (c.farthest-end.ensures ∙ ap farthest (c.deref.ensures.value ∙ sym c.new.ensures));
}
