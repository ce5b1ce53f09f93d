use Rattle.std.proofs.Common.{◌≡◌, map}
use Rattle.command_line.proofs.finish.pieces.Given as goal

-- the pieces so far
abbrev pub invariant-loop-piece : goal.invariant-loop-piece
invariant-loop-piece l = l.texts.items ≡ map (λ x. x.now) l.yielded
