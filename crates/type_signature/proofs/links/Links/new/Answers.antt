use Rattle.std.proofs.Common.{◌≡◌, length, arith}
use Rattle.type_signature.proofs.Linking.{AreLinked-more, AreLinks-all}
use Rattle.type_signature.proofs.links.Links.new.Goals as goal

pub loop-x-preserved : goal.loop-x-preserved
loop-x-preserved g c =
    let nodes = (g.G.TypeGraph.shape c.args.graph.now).nodes in
    let end : c.in-Ok.end ≡ length c.push_words.new.words.items = omega (arith, c.in-Ok.ensures) in
    rw c.in_ok-push-2.ensures.items (AreLinked-more nodes c.len.ensures.sound.within c.loop-x.x
    c.loop-x.ends.items c.loop-x.words.items c.push_words.new.words.items c.loop-x.invariant
    c.in_ok-push_words.ensures c.in-Ok.end end)

pub returns : goal.returns
returns g c = AreLinks-all (g.G.TypeGraph.shape c.args.graph.now).nodes c.loop-x.x
    c.loop-x.ends.items c.loop-x.words.items (omega (
      arith,
      c.loop-x.auto.x-end,
      c.loop-x-test.false,
      c.len-x-end.ensures.len,
    )) c.loop-x.invariant
