use Rattle.std.proofs.Common.{◌≡◌, ◌++◌, map}
use Rattle.btf_codec.specs.Reading.{ref_of, word_in, words_at}
use Rattle.btf_codec.proofs.decoded.push_refs.Given as goal

abbrev pub invariant-loop-i : goal.invariant-loop-i
invariant-loop-i l = l.out.items
    ≡ l.initial.out.items ++ map ref_of (words_at (word_in l.order l.piece) l.at l.width l.i)
