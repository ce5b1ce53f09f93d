use Rattle.c_model.specs.Partition.{targets_at}
use Rattle.type_signature.proofs.Linking.{words-read}
use Rattle.type_signature.proofs.links.push_words.Goals as goal

pub loop-i-preserved : goal.loop-i-preserved
loop-i-preserved g c = words-read (targets_at (g.G.TypeGraph.shape c.args.graph.now).nodes c.args.x)
    c.loop-i.i c.target.result c.args.words.now.items c.loop-i.words.items c.push.new.self.items
    c.target.ensures.target c.loop-i.invariant (rw c.word.ensures at c.in_ok-push.ensures.items)
