use Rattle.std.proofs.Common.{◌≤◌, length}
use Rattle.shown_types.specs.ByName.{AreNamed}
use Rattle.shown_types.proofs.by_name.by_name.Given as goal

-- the types from a place on are named
abbrev pub invariant-loop-x : goal.invariant-loop-x
invariant-loop-x l = record {
  within : l.x ≤ length l.types;
  named : AreNamed l.types l.x l.first.entries l.next.items;
}

abbrev pub decreases-loop-x : goal.decreases-loop-x
decreases-loop-x l = l.x
