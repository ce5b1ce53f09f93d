use Rattle.std.proofs.Common.{get_or, refl, arith}
use Rattle.std.proofs.lemmas.List.{take_all}
use Rattle.forward_rule.proofs.Asking.{marks-next}
use Rattle.forward_rule.proofs.gather.asked_of.Goals as goal

pub loop-tag-preserved : goal.loop-tag-preserved
loop-tag-preserved c =
    let i = c.loop-tag.tag-index in
    marks-next c.loop-tag.asked.items c.mark.new.asked.items c.args.count
    (get_or c.args.tags.now i 0) c.loop-tag.invariant.0 c.mark.ensures c.args.tags.now i
    c.loop-tag-test.true refl c.loop-tag.invariant.1

pub returns-clause-asked : goal.returns-clause-asked
returns-clause-asked c =
    let i = c.loop-tag.tag-index in
    let past = c.loop-tag-test.false in
    rw (take_all i c.args.tags.now (omega (arith, past))) at c.loop-tag.invariant.1
