use Rattle.std.proofs.Common.{◌≡◌, ◌+◌, ◌*◌, ◌-◌, ◌≤◌, List, ℕ, length, map}
use Rattle.btf_codec.specs.Reading.{pieces_of}
use Rattle.btf_codec.proofs.Splitting.{with_front}
use Rattle.btf_codec.proofs.file.pieces_of.Given as goal
use denote.Bor.{Bor}

abbrev pub invariant-loop : goal.invariant-loop
invariant-loop l =
    record {
      so_far :
          with_front (map (λ (p : Bor (List ℕ)). p.now) l.pieces.items)
          (pieces_of l.order (length l.types - l.counter) l.place l.id l.rest)
          ≡ pieces_of l.order (length l.types) 24 l.first l.types;
      place_is : l.place + length l.rest ≡ 24 + length l.types;
      ids : 12 * l.id + length l.rest ≤ 12 * l.first + length l.types;
    }
