use Rattle.std.proofs.Common.{◌++◌}
use Rattle.btf_codec.specs.Reading.{decoded_part, places, word_in}
use Rattle.btf_codec.proofs.Pasts.{made_more}
use Rattle.btf_codec.proofs.decoded.decoded_parts.Goals as goal

pub loop-i-init : goal.loop-i-init
unfolding places
loop-i-init c = c.new-parts.ensures.items

pub loop-i-preserved : goal.loop-i-preserved
loop-i-preserved c =
    made_more (decoded_part c.args.layout (c.args.texts.base.now ++ c.args.texts.own.now)
    (word_in c.args.order c.args.piece.now)) 3 c.part_width-width.result c.loop-i.i
    c.loop-i.parts.items c.push.new.self.items c.decoded_part.result
    c.loop-i.invariant c.in_ok-push.ensures.items c.decoded_part.ensures
