use Rattle.std.proofs.Common.{◌<◌, length, arith}
use Rattle.forward_rule.specs.Kept.{lists_of}
use Rattle.forward_rule.proofs.Lookups.{length-lists_of}
use Rattle.forward_rule.proofs.Asking.{KeepsAsked-set}
use Rattle.forward_rule.proofs.gather.empty_unasked.Goals as goal

pub loop-i-preserved : goal.loop-i-preserved
loop-i-preserved c =
    let old = c.args.groups.now.items in
    let now = c.loop-i.groups.items in
    let lt : c.loop-i.i < length now = omega (
      arith,
      c.loop-i-test.true,
      c.len-i-end.ensures,
      c.loop-i.invariant.covers,
      length-lists_of old,
      length-lists_of now,
    ) in
    KeepsAsked-set c.args.asked.now (lists_of old) now c.loop-i.i c.index_mut.result.now
    c.empty_unless.new.group lt c.index_mut.ensures.value c.empty_unless.ensures c.loop-i.invariant
