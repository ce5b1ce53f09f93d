-- The working form of sums over all members.
use Rattle.std.specs.Prelude.{◌≡◌, ℕ, List, ◌++◌}
use Rattle.layout_printer.specs.Text.{all_bits, bit_holes, bit_holes_text, byte_holes}
use Rattle.layout_printer.specs.Text.{byte_holes_text, hole_bits, hole_bytes}
use Rattle.layout_printer.specs.declared.slots.Slot.{Slot}
use Rattle.layout_printer.specs.declared.summary.Totals.{Totals}

-- the sums over these members
pub record AreTotals (slots : List Slot) (all : Totals) : Type 0 where
  pub bits : all.bits ≡ all_bits slots
  pub byte_holes : all.byte_holes ≡ byte_holes slots
  pub hole_bytes : all.hole_bytes ≡ hole_bytes slots
  pub bit_holes : all.bit_holes ≡ bit_holes slots
  pub hole_bits : all.hole_bits ≡ hole_bits slots

-- the lines of the holes by the sums
abbrev pub sums_text : Totals → List ℕ
sums_text all = byte_holes_text all.bits all.byte_holes all.hole_bytes
    ++ bit_holes_text all.bit_holes all.hole_bits
