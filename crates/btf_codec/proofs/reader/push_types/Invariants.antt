use Rattle.std.proofs.Common.{◌≡◌, ◌++◌, ℕ, List, map, take}
use Rattle.btf_codec.specs.Reading.{types_of}
use Rattle.btf_codec.proofs.reader.push_types.Given as goal
use denote.Bor.{Bor}

abbrev pub invariant-loop-piece : goal.invariant-loop-piece
invariant-loop-piece l =
    l.all.items ≡ l.initial.all.items ++ types_of (l.texts.base.now ++ l.texts.own.now) l.order
    (map (λ (p : Bor (List ℕ)). p.now) (take l.piece-index l.pieces))
