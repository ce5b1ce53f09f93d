use Rattle.std.proofs.Common.{◌≡◌, ◌+◌, ◌*◌, ◌-◌}
use Rattle.btf_codec.specs.Reading.{first_past, word_in, words_at}
use Rattle.btf_codec.proofs.offsets.first_past.Given as goal

abbrev pub invariant-loop-i : goal.invariant-loop-i
invariant-loop-i l =
    first_past l.limit
    (words_at (word_in l.order l.piece) (l.at + l.width * l.i) l.width (l.n - l.i))
    ≡ first_past l.limit (words_at (word_in l.order l.piece) l.at l.width l.n)
