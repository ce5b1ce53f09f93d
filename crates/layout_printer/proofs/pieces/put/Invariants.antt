use Rattle.std.proofs.Common.{◌≡◌, ◌++◌, drop}
use Rattle.layout_printer.specs.Pieces.{texts}
use Rattle.layout_printer.proofs.pieces.put.Given as goal

-- with the rest of the pieces it is all
abbrev pub invariant-loop-piece : goal.invariant-loop-piece
invariant-loop-piece l =
    l.out.items ++ texts (drop l.piece-index l.pieces) ≡ l.initial.out.items ++ texts l.pieces
