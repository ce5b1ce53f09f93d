use Rattle.std.proofs.Common.{◌≡◌, ◌++◌}
use Rattle.shown_types.specs.Listed.{structures_from}
use Rattle.shown_types.proofs.listed.structures_from.Given as goal

-- what is found so far leads on to the whole
abbrev pub invariant-loop-x : goal.invariant-loop-x
invariant-loop-x l = l.all.items ++ structures_from l.types l.x ≡ structures_from l.types l.from
