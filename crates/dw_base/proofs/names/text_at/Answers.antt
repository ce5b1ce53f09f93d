use Rattle.std.proofs.Common.{ℕ, List, Some, ap, sym, ◌∙◌}
use Rattle.dw_base.proofs.Terminated.{rest_whole, text_missing, text_there, text_past}
use Rattle.dw_base.proofs.names.text_at.Goals as goal

pub returns-then-at-bytes : goal.returns-then-at-bytes
returns-then-at-bytes c = sym (text_past c.args.bytes.now c.args.at c.if-at-bytes.true)

pub returns-in-None : goal.returns-in-None
returns-in-None c = sym (text_missing c.args.bytes.now _ c.args.at c.memchr.result
    (rest_whole c.args.bytes.now c.args.at) c.memchr.ensures c.in-None.is)

pub returns-in-Some : goal.returns-in-Some
returns-in-Some c =
    ap (λ (xs : List ℕ). Some xs) c.new.ensures
    ∙ sym (text_there c.args.bytes.now _ c.args.at c.in-Some.end c.memchr.result
    (rest_whole c.args.bytes.now c.args.at) c.memchr.ensures c.in-Some.is)
