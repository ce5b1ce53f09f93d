use Rattle.std.proofs.Common.{◌<◌, ◌≤◌, ℕ}
use Rattle.type_signature.proofs.sharing.holds_in_share.Given as goal

abbrev pub invariant-loop-x : goal.invariant-loop-x
invariant-loop-x g l = (k : ℕ) → l.from ≤ k → k < l.x → g.H.HoldsAt.holds l.of k
