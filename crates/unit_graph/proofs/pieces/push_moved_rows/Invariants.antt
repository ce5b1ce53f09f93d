use Rattle.std.proofs.Common.{◌≡◌, ◌++◌, map, take}
use Rattle.unit_graph.specs.Numbers.{row_moved}
use Rattle.unit_graph.proofs.pieces.push_moved_rows.Given as goal

abbrev pub invariant-loop-row : goal.invariant-loop-row
invariant-loop-row l =
    l.rows.items ≡ l.initial.rows.items ++ map (row_moved l.by) (take l.row-index l.more)
