use Rattle.std.proofs.Common.{◌∙◌}
use Rattle.btf_codec.proofs.Strung.{text_in_first, text_in_second}
use Rattle.btf_codec.proofs.decoded.text_in.Goals as goal

pub returns-then-at-start : goal.returns-then-at-start
returns-then-at-start c = c.text.ensures ∙ text_in_first c.args.texts.base.now
    c.args.texts.own.now c.args.at c.requires (rw c.bytes.ensures at c.if-at-start.true)

pub returns : goal.returns
returns c = (rw c.bytes.ensures at c.text-2.ensures)
    ∙ text_in_second c.args.texts.base.now c.args.texts.own.now c.args.at
    (rw c.bytes.ensures at c.if-at-start.false)
