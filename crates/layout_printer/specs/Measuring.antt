-- The working form of holes: the farthest end of members.
use Rattle.std.specs.Prelude.{ℕ, max, List, [], ◌∷◌}
use Rattle.layout_printer.specs.Layout.{end_of}
use Rattle.layout_printer.specs.declared.slots.Slot.{Slot}

-- the farthest end of members
abbrev pub farthest : List Slot → ℕ
farthest [] = 0
farthest (s ∷ ss) = max (end_of s) (farthest ss)
