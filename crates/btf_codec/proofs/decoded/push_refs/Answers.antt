use Rattle.std.proofs.Common.{sym, ap, ◌∙◌, append-nil}
use Rattle.btf_codec.specs.Reading.{places, ref_of, word_in}
use Rattle.btf_codec.proofs.Pasts.{refs_more}
use Rattle.btf_codec.proofs.decoded.push_refs.Goals as goal

pub loop-i-init : goal.loop-i-init
unfolding places
loop-i-init c = sym (append-nil c.args.out.now.items)

pub loop-i-preserved : goal.loop-i-preserved
loop-i-preserved c =
    refs_more (word_in c.args.order c.args.piece.now) c.args.at c.args.width c.loop-i.i
    c.args.out.now.items c.loop-i.out.items c.push.new.self.items c.ref_of.result
    c.loop-i.invariant c.in_ok-push.ensures.items (c.ref_of.ensures ∙ ap ref_of c.word_in.ensures)
