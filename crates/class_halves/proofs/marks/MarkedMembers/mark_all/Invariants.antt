use Rattle.std.proofs.Common.{◌≡◌, take}
use Rattle.class_halves.specs.Moves.{AreMarked}
use Rattle.class_halves.proofs.marks.MarkedMembers.mark_all.Given as goal

abbrev pub invariant-loop-x : goal.invariant-loop-x
invariant-loop-x l = record {
  marked : AreMarked l.self.marked.items (take l.x-index l.nodes);
  classes : l.self.classes ≡ l.fn.self.classes;
}
