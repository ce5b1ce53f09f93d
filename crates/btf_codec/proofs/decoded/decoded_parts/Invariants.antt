use Rattle.std.proofs.Common.{◌≡◌, ◌++◌, map}
use Rattle.btf_codec.specs.Reading.{decoded_part, places, word_in}
use Rattle.btf_codec.proofs.decoded.decoded_parts.Given as goal

abbrev pub invariant-loop-i : goal.invariant-loop-i
invariant-loop-i l = l.parts.items ≡ map
    (decoded_part l.layout (l.texts.base.now ++ l.texts.own.now)
    (word_in l.order l.piece)) (places 3 l.width l.i)
