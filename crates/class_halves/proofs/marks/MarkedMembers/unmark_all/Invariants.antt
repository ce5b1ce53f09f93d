use Rattle.std.proofs.Common.{◌≡◌, ◌<◌, ℕ, false, get_or}
use Rattle.std.specs.List.{Contains}
use Rattle.class_halves.specs.Moves.{Marked}
use Rattle.class_halves.proofs.marks.MarkedMembers.unmark_all.Given as goal

abbrev pub invariant-loop-x : goal.invariant-loop-x
invariant-loop-x l = record {
  fewer : (x : ℕ) → Marked l.self.marked.items x → Contains l.nodes x;
  gone : (k : ℕ) → k < l.x-index → get_or l.self.marked.items (get_or l.nodes k 0) false ≡ false;
  classes : l.self.classes ≡ l.fn.self.classes;
}
