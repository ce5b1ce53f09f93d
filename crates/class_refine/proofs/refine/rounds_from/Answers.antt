use Rattle.std.proofs.Common.{◌≡◌, ◌+◌, ℕ, ◌∙◌, ◌≢◌, ◌≤◌, ◌<◌, length, arith, eqb}
use Rattle.std.specs.Set.{distinct_count}
use Rattle.type_signature.proofs.Placed.{KeepsForwards-above}
use Rattle.class_refine.proofs.Rounds.{round-goes_on, count-le_round}
use Rattle.class_refine.proofs.Rounds.{IsCoarsestWith-from_count}
use Rattle.class_refine.proofs.Rounds.{IsNumbering-within, IsRefining-within}
use Rattle.c_model.specs.Graph.{references}
use Rattle.std.proofs.lemmas.Map.Made.{distinct_count-le}
use Rattle.class_refine.proofs.Costs.{passes-within, on_err}
use Rattle.class_refine.proofs.refine.rounds_from.Goals as goal

pub loop-now-init : goal.loop-now-init
loop-now-init g c =
    let first = c.requires.above in (
      (first.0, record { above = first.1; counted = first.2; few = omega arith }),
      omega arith,
    )

pub returns-then-next-count-clause-coarsest : goal.returns-then-next-count-clause-coarsest
returns-then-next-count-clause-coarsest g c =
    let i = c.loop-now.invariant.0.1 in
    let e = c.if-next-count.true in
    let m = c.in_ok-next.ensures.count in
    let k = i.counted in
    IsCoarsestWith-from_count c.args.graph.now c.args.fwd.now c.requires.index c.requires.fitting
    c.len-nodes.ensures.within c.loop-now.invariant.0.0 c.loop-now.now
    c.in_ok-next.next.numbers.items i.above c.in_ok-next.ensures.numbers (omega arith)

pub returns-then-next-count-clause-forwards : goal.returns-then-next-count-clause-forwards
returns-then-next-count-clause-forwards g c =
    KeepsForwards-above c.args.graph.now c.args.fwd.now c.requires.index c.requires.fitting
    c.loop-now.invariant.0.0 c.loop-now.now c.loop-now.invariant.0.1.above

pub overflow_add-number : goal.overflow_add-number
overflow_add-number g c =
    let i = c.loop-now.invariant.0.1 in
    let on = round-goes_on c.args.graph.now c.args.fwd.now c.requires.index c.requires.fitting
    c.len-nodes.ensures.within _ _ _ i.above c.in_ok-next.ensures.numbers c.in_ok-now.now
    (rw c.deref.ensures.value at c.in_ok-now.ensures) i.counted c.in_ok-next.ensures.count
    c.if-next-count.false in
    let all = on.2 in
    let more = on.1 in
    let few = i.few in
    let len = c.len-nodes.ensures.len in
    let fits = c.len-nodes.type_inv in
    search arith

pub loop-now-smaller : goal.loop-now-smaller
loop-now-smaller g c =
    let graph = c.args.graph.now in
    let index = c.args.fwd.now in
    let raw = c.loop-now.invariant.0.0 in
    let i = c.loop-now.invariant.0.1 in
    let next = c.in_ok-next.next.numbers.items in
    let n = c.in_ok-next.ensures.numbers in
    let le = count-le_round graph index c.requires.index c.requires.fitting
    c.len-nodes.ensures.within raw c.loop-now.now next i.above n in
    let ne : c.in_ok-next.next.count ≢ c.loop-now.count = c.if-next-count.false in
    let m = c.in_ok-next.ensures.count in
    let k = i.counted in
    let all : distinct_count eqb next ≤ length graph.nodes =
    IsNumbering-within (length graph.nodes) next n.covers in
    omega arith

pub loop-now-preserved : goal.loop-now-preserved
loop-now-preserved g c =
    let i = c.loop-now.invariant.0.1 in
    let on = round-goes_on c.args.graph.now c.args.fwd.now c.requires.index c.requires.fitting
    c.len-nodes.ensures.within _ _ _ i.above c.in_ok-next.ensures.numbers c.in_ok-now.now
    (rw c.deref.ensures.value at c.in_ok-now.ensures) i.counted c.in_ok-next.ensures.count
    c.if-next-count.false in
    let more = on.1 in
    let few = i.few in
    let before = c.loop-now.invariant.1 in
    let cost = c.in_ok-next.ensures.cost in (
      (
        c.in_ok-next.next.numbers.items,
        record { above = on.0; counted = c.in_ok-next.ensures.count; few = omega arith },
      ),
      omega arith,
    )

pub returns-in_err-next-clause-bound : goal.returns-in_err-next-clause-bound
returns-in_err-next-clause-bound g c =
    let nodes = c.args.graph.now.nodes in
    let few = IsRefining-within _ _ _ _ _ _ c.loop-now.invariant.0.1 in
    on_err _ (passes-within (length nodes + references nodes) c.loop-now.number (length nodes)
    c.loop-now.steps _ c.args.steps.now few c.loop-now.invariant.1 c.round.ensures.cost)

pub returns-in_err-now-clause-bound : goal.returns-in_err-now-clause-bound
returns-in_err-now-clause-bound g c =
    let nodes = c.args.graph.now.nodes in
    let few = IsRefining-within _ _ _ _ _ _ c.loop-now.invariant.0.1 in
    on_err _ (passes-within (length nodes + references nodes) c.loop-now.number (length nodes)
    c.loop-now.steps _ c.args.steps.now few c.loop-now.invariant.1 c.round.ensures.cost)
