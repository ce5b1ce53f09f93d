use Rattle.std.proofs.Common.{◌≡◌, ◌≤◌, ◌-◌, length}
use Rattle.entry_tree.specs.Units.{units_from, units_of, appended}
use Rattle.entry_tree.proofs.headers.read_units.Given as goal

abbrev pub invariant-loop : goal.invariant-loop
invariant-loop l = record {
  inside : l.at ≤ length l.info;
  so_far : appended l.units.items (units_from l.info l.order (length l.info - l.counter) l.at)
      ≡ units_of l.info l.order;
}
