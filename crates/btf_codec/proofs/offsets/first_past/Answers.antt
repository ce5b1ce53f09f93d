use Rattle.std.proofs.Common.{sym, ◌∙◌}
use Rattle.btf_codec.specs.Reading.{word_in}
use Rattle.btf_codec.proofs.Pasts.{past_found, past_none, past_on}
use Rattle.btf_codec.proofs.offsets.first_past.Goals as goal

pub returns-then-is_past : goal.returns-then-is_past
returns-then-is_past c =
    past_found (word_in c.args.order c.args.piece.now) c.args.limit c.args.at c.args.width c.args.n
    c.loop-i.i c.word_in-word.result c.loop-i-test.true c.word_in-word.ensures
    (sym c.is_past.ensures ∙ c.if-is_past.true) c.loop-i.invariant

pub loop-i-preserved : goal.loop-i-preserved
loop-i-preserved c =
    past_on (word_in c.args.order c.args.piece.now) c.args.limit c.args.at c.args.width c.args.n
    c.loop-i.i c.word_in-word.result c.loop-i-test.true c.word_in-word.ensures
    (sym c.is_past.ensures ∙ c.if-is_past.false) c.loop-i.invariant

pub returns : goal.returns
returns c = past_none (word_in c.args.order c.args.piece.now) c.args.limit c.args.at c.args.width
    c.args.n c.loop-i.i c.loop-i-test.false c.loop-i.invariant
