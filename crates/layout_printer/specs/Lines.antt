-- The working form of boundaries of cache lines: the last line that a member begins in.
use Rattle.std.specs.Prelude.{ℕ, max, List, [], ◌∷◌}
use Rattle.layout_printer.specs.Text.{line_of}
use Rattle.layout_printer.specs.declared.slots.Slot.{Slot}

-- the greatest cache line that one of these members begins in; 0 where there are none
abbrev pub greatest_line : ℕ → List Slot → ℕ
greatest_line line [] = 0
greatest_line line (s ∷ ss) = max (line_of line s) (greatest_line line ss)
