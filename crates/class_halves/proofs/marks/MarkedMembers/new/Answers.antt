use Rattle.std.proofs.Common.{ap, length}
use Rattle.class_halves.proofs.Counting.{IsCounted-none}
use Rattle.class_halves.proofs.marks.MarkedMembers.new.Goals as goal

pub invariant_of-result : goal.invariant_of-result
invariant_of-result c = record {
  counted = IsCounted-none c.args.classes (length c.numbers-count.result.now)
      c.in_ok-marked.marked.items c.in_ok-hits.hits.items (ap length c.numbers-count.ensures)
      (c.in_ok-marked.ensures.items_if_clones_equal (λ y e. e))
      (c.in_ok-hits.ensures.items_if_clones_equal (λ y e. e));
}
