use Rattle.std.proofs.Common.{◌≡◌, ◌+◌, ◌*◌, ◌≤◌, ◌^◌, ℕ, List, map, drop}
use Rattle.btf_codec.specs.Reading.{pieces_fault}
use Rattle.btf_codec.proofs.reader.check_words.Given as goal
use denote.Bor.{Bor}

abbrev pub invariant-loop-piece : goal.invariant-loop-piece
invariant-loop-piece l =
    record {
      so_far :
          pieces_fault l.order l.place l.id l.limit l.count
          (map (λ (p : Bor (List ℕ)). p.now) (drop l.piece-index l.pieces))
          ≡ pieces_fault l.order 24 l.first l.limit l.count
          (map (λ (p : Bor (List ℕ)). p.now) l.pieces);
      id_is : l.id ≡ l.first + l.piece-index;
      near : l.place ≤ 24 + 2 ^ 32 * l.piece-index;
    }
