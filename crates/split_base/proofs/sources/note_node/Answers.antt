use Rattle.std.proofs.Common.{arith}
use Rattle.split_base.proofs.Noting.{noted_base, noted_own}
use Rattle.split_base.proofs.sources.note_node.Goals as goal

pub returns-then-place-base : goal.returns-then-place-base
returns-then-place-base b c =
    noted_base (b.G.TypeGraph.shape c.args.graph.now) c.args.places.now c.args.x c.args.plain.now
    (omega (arith, c.if-place-base.true, c.base-base.ensures.base)) c.requires.before

pub returns : goal.returns
returns b c =
    noted_own (b.G.TypeGraph.shape c.args.graph.now) c.args.places.now c.args.x _ c.args.plain.now
    c.first_plain.result
    (omega (arith, c.if-place-base.false, c.base-base.ensures.base))
    (omega (arith, c.if-place-base.false, c.base-base.ensures.base, c.requires.within))
    c.first_plain.ensures c.requires.before
