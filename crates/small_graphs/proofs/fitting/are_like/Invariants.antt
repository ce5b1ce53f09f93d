use Rattle.std.proofs.Common.{◌≡◌, ◌<◌, ℕ, Some}
use Rattle.c_model.specs.Partition.{label_at}
use Rattle.c_model.specs.Forwards.{Tag, forward_at}
use Rattle.small_graphs.proofs.fitting.are_like.Given as goal

abbrev pub invariant-loop-y : goal.invariant-loop-y
invariant-loop-y l = (y : ℕ) (tag : Tag) → y < l.y → forward_at l.graph l.x ≡ Some tag
    → forward_at l.graph y ≡ Some tag → label_at l.graph.nodes l.x ≡ label_at l.graph.nodes y
