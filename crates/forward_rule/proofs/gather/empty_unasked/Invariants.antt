use Rattle.forward_rule.specs.Kept.{lists_of}
use Rattle.forward_rule.specs.Asked.{KeepsAsked}
use Rattle.forward_rule.proofs.gather.empty_unasked.Given as goal

abbrev pub invariant-loop-i : goal.invariant-loop-i
invariant-loop-i l = KeepsAsked l.asked (lists_of l.initial.groups.items) (lists_of l.groups.items)
