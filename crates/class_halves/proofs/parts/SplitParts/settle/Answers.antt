use Rattle.std.proofs.Common.{arith}
use Rattle.class_halves.proofs.Moving.{at-some}
use Rattle.class_halves.proofs.parts.SplitParts.settle.Goals as goal

pub three_wait-requires-clause-forwards : goal.three_wait-requires-clause-forwards
three_wait-requires-clause-forwards c = c.args.self.now.room.beside_known c.args.class
    c.in-Some.forwards (at-some c.args.self.now.beside.items c.args.class c.in-Some.forwards _
    (let r = c.args.self.now.room.beside_room in let k = c.requires.class in
    omega arith) c.index-beside.ensures c.in-Some.is)
