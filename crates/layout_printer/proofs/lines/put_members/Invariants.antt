use Rattle.std.proofs.Common.{◌≡◌, ◌++◌, take}
use Rattle.std.specs.List.{flat_map, range_with_len}
use Rattle.layout_printer.specs.Lines.{greatest_line}
use Rattle.layout_printer.specs.Text.{member_at}
use Rattle.layout_printer.proofs.lines.put_members.Given as goal

-- the members so far, and the last line that one of them begins in
abbrev pub invariant-loop-place : goal.invariant-loop-place
invariant-loop-place l = record {
  written : l.out.items ≡ l.initial.out.items
      ++ flat_map (member_at l.types l.r l.line l.slots) (range_with_len 0 l.place);
  greatest : l.greatest ≡ greatest_line l.line (take l.place l.slots);
}
