use Rattle.type_signature.proofs.Linking.{AreLinked}
use Rattle.type_signature.proofs.links.Links.new.Given as goal

abbrev pub invariant-loop-x : goal.invariant-loop-x
invariant-loop-x b l = AreLinked (b.G.TypeGraph.shape l.graph).nodes l.x l.ends.items l.words.items
