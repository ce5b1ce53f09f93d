use Rattle.std.proofs.Common.{◌≡◌, All, length, take}
use Rattle.forward_rule.specs.Asked.{IsAskedFor}
use Rattle.forward_rule.proofs.gather.asked_of.Given as goal

abbrev pub invariant-loop-tag : goal.invariant-loop-tag
invariant-loop-tag l = (length l.asked.items ≡ l.count)
    × All (λ t. IsAskedFor l.count l.asked.items t) (take l.tag-index l.tags)
