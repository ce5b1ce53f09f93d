use Rattle.std.proofs.Common.{◌≡◌, ◌<◌, ℕ, length, get_or}
use Rattle.type_signature.specs.Labels.{mark_number}
use Rattle.type_signature.specs.Signatures.{is_open_at}
use Rattle.type_signature.proofs.labels.open_marks.Given as goal

abbrev pub invariant-loop-x : goal.invariant-loop-x
invariant-loop-x b l = (length l.marks.items ≡ l.x)
    × ((k : ℕ) → k < l.x → get_or l.marks.items k 0 ≡ mark_number (is_open_at l.fwd k))
