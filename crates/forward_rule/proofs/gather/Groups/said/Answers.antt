use Rattle.forward_rule.proofs.Knowing.{Remembers-noted}
use Rattle.forward_rule.proofs.gather.Groups.said.Goals as goal

pub returns-clause-remembers : goal.returns-clause-remembers
returns-clause-remembers b c =
    let k = c.args.known.now in
    rw c.note.ensures.numbers (Remembers-noted (b.G.TypeGraph.shape c.args.graph.now).nodes
    c.args.self.now.keys.keys c.asked.new.self.keys.keys k.numbers.now k.said.items
    c.note.new.self.said.items c.args.x c.in_ok-tagged.tagged c.requires.labels
    c.requires.remembers c.in_ok-tagged.ensures.grows c.in_ok-tagged.ensures.says
    c.note.ensures.said)
