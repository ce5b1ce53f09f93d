use Rattle.std.proofs.Common.{◌≡◌, take}
use Rattle.small_graphs.specs.Made.{parts_in}
use Rattle.small_graphs.proofs.rows.parts_of.Given as goal

-- so many parts are there
abbrev pub invariant-loop-name : goal.invariant-loop-name
invariant-loop-name l = l.parts.items ≡ parts_in (take l.name-index l.pieces)
