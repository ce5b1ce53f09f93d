use Rattle.std.proofs.Common.{arith, rules}
use Rattle.shown_types.proofs.Naming.{none_named}
use Rattle.shown_types.proofs.by_name.by_name.Goals as goal

pub loop-x-init : goal.loop-x-init
loop-x-init c = record {
  within = omega arith;
  named = none_named c.args.types.now c.with_hasher-first.result.entries c.in_ok-next.next.items
      (search rules) (search rules);
}
