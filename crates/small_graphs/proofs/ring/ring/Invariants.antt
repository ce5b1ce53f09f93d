use Rattle.std.proofs.Common.{◌≡◌, map}
use Rattle.std.specs.List.{range_with_len}
use Rattle.small_graphs.specs.Made.{ring_type}
use Rattle.small_graphs.proofs.ring.ring.Given as goal

-- so many types are there
abbrev pub invariant-loop-x : goal.invariant-loop-x
invariant-loop-x l = l.types.items ≡ map (ring_type l.count) (range_with_len 0 l.x)
