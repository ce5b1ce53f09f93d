use Rattle.std.proofs.Common.{◌∙◌, lit<, rules}
use Rattle.std.proofs.lemmas.Iterator.Splits.{YieldsList-from_str_split}
use Rattle.std.proofs.lemmas.Iterator.Consumers.{YieldsList-end}
use Rattle.command_line.proofs.finish.pieces.Goals as goal

pub returns : goal.returns
returns c =
    let split = c.split-piece-items.ensures in
    let same = c.into_iter-piece-iterator.ensures.into_iter_gives in
    let yields =
    YieldsList-from_str_split {s = c.into_iter-piece-iterator.result} 44 c.args.value.now (lit< tt)
    (search rules) (search rules)
    (search rules) in
    let all = YieldsList-end yields c.loop-piece.yielded _ c.loop-piece.yielded_by _ _ c.in-None.is
    c.next.ensures.steps in
    c.new.ensures ∙ c.loop-piece.invariant ∙ all.0
