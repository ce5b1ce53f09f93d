use Rattle.std.proofs.Common.{◌≡◌, All, take, true}
use Rattle.type_signature.proofs.sharing.all_yes.Given as goal

abbrev pub invariant-loop-answer : goal.invariant-loop-answer
invariant-loop-answer l = All (λ b. b ≡ true) (take l.answer-index l.answers)
