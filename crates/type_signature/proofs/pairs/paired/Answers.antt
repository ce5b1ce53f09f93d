use Rattle.std.proofs.Common.{◌≡◌, ◌≤◌, length, refl, arith}
use Rattle.type_signature.proofs.Taking.{IsNumbered-step, IsNumbered-count, IsNumbered-below}
use Rattle.type_signature.proofs.Taking.{place-within}
use Rattle.type_signature.specs.Hashing.{pair_at}
use Rattle.type_signature.proofs.pairs.paired.Goals as goal

pub overflow_cast-place : goal.overflow_cast-place
overflow_cast-place c =
    let k = pair_at c.args.first.now c.args.second.now in
    let le : c.in_ok-place.place ≤ c.loop-x.x = place-within k c.loop-x.x c.loop-x.numbers.items
    c.loop-x.pairs.keys _ _ _ c.loop-x.invariant c.in_ok-place.ensures in
    search arith

pub loop-x-preserved : goal.loop-x-preserved
loop-x-preserved c =
    let k = pair_at c.args.first.now c.args.second.now in
    IsNumbered-step k c.loop-x.x c.loop-x.numbers.items _ c.loop-x.pairs.keys _ _ _
    c.loop-x.invariant refl c.in_ok-place.ensures c.in_ok-push.ensures.items

pub overflow_cast-count : goal.overflow_cast-count
overflow_cast-count c =
    let few = IsNumbered-count (pair_at c.args.first.now c.args.second.now) _ c.loop-x.numbers.items
    c.loop-x.pairs.keys c.loop-x.invariant in
    let len = c.len-count.ensures in
    search arith

pub returns-clause-below : goal.returns-clause-below
returns-clause-below c =
    let end : c.loop-x.x ≡ length c.args.first.now = search arith in
    rw (← end) (IsNumbered-below (pair_at c.args.first.now c.args.second.now) c.loop-x.x
    c.loop-x.numbers.items c.loop-x.pairs.keys c.loop-x.invariant)
