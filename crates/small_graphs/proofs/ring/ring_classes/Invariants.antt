use Rattle.std.proofs.Common.{◌≡◌, ◌%◌, ℕ, map}
use Rattle.std.specs.List.{range_with_len}
use Rattle.small_graphs.proofs.ring.ring_classes.Given as goal

-- so many numbers are there
abbrev pub invariant-loop-x : goal.invariant-loop-x
invariant-loop-x l = l.numbers.items ≡ map (λ (x : ℕ). x % 2) (range_with_len 0 l.x)
