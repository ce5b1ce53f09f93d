use Rattle.std.proofs.Common.{◌≡◌, ◌<◌, ℕ, Some, length}
use Rattle.c_model.specs.Partition.{label_at, targets_at}
use Rattle.c_model.specs.Forwards.{Tag, declaration_at, forward_at}
use Rattle.small_graphs.proofs.fitting.is_fitting.Given as goal

abbrev pub invariant-loop-x : goal.invariant-loop-x
invariant-loop-x l = ((x : ℕ) (tag : Tag) → x < l.x → declaration_at l.graph.nodes x ≡ Some tag
    → length (targets_at l.graph.nodes x) ≡ 0)
    × ((x y : ℕ) (tag : Tag) → x < l.x → y < length l.graph.nodes → forward_at l.graph x ≡ Some tag
    → forward_at l.graph y ≡ Some tag → label_at l.graph.nodes x ≡ label_at l.graph.nodes y)
