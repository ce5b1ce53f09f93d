use Rattle.std.proofs.Common.{◌<◌, ℕ, All, length, get_or}
use Rattle.type_signature.proofs.settled.firsts_of.Given as goal

abbrev pub invariant-loop-x : goal.invariant-loop-x
invariant-loop-x l = All (λ k. k < length l.raw) l.firsts.items
    × ((y : ℕ) → y < l.x → get_or l.raw y 0 < length l.firsts.items)
