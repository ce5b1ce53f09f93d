use Rattle.std.proofs.Common.{arith}
use Rattle.class_halves.proofs.Moving.{at-some}
use Rattle.class_halves.proofs.parts.SplitParts.list.Goals as goal

pub list-requires-in-Some : goal.list-requires-in-Some
list-requires-in-Some c = c.args.self.now.room.beside_known c.args.class c.in-Some.forwards
    (at-some c.args.self.now.beside.items c.args.class c.in-Some.forwards _
    (let r = c.args.self.now.room.beside_room in let k = c.requires in
    omega arith) c.index.ensures c.in-Some.is)
