-- The lines of holes by their sums.
use Rattle.std.proofs.Common.{◌≡◌, List, ap, ◌∙◌}
use Rattle.layout_printer.specs.Text.{all_bits, bit_holes, bit_holes_text, byte_holes}
use Rattle.layout_printer.specs.Text.{byte_holes_text, hole_bytes, holes_text}
use Rattle.layout_printer.specs.Totals.{AreTotals, sums_text}
use Rattle.layout_printer.specs.declared.slots.Slot.{Slot}
use Rattle.layout_printer.specs.declared.summary.Totals.{Totals}
use Rattle.std.proofs.Common.{◌++◌}

pub sums_are : (slots : List Slot) (all : Totals) → AreTotals slots all
    → sums_text all ≡ holes_text slots
sums_are slots all t =
    ap (λ n. byte_holes_text n all.byte_holes all.hole_bytes
    ++ bit_holes_text all.bit_holes all.hole_bits) t.bits
    ∙ ap (λ n. byte_holes_text (all_bits slots) n all.hole_bytes
    ++ bit_holes_text all.bit_holes all.hole_bits) t.byte_holes
    ∙ ap (λ n. byte_holes_text (all_bits slots) (byte_holes slots) n
    ++ bit_holes_text all.bit_holes all.hole_bits) t.hole_bytes
    ∙ ap (λ n. byte_holes_text (all_bits slots) (byte_holes slots) (hole_bytes slots)
    ++ bit_holes_text n all.hole_bits) t.bit_holes
    ∙ ap (λ n. byte_holes_text (all_bits slots) (byte_holes slots) (hole_bytes slots)
    ++ bit_holes_text (bit_holes slots) n) t.hole_bits
