use Rattle.std.proofs.Common.{◌<◌, ℕ, List, length, get_or, arith, ap, ◌∙◌}
use Rattle.std.proofs.lemmas.List.{get_or_default}
use Rattle.std.proofs.lemmas.List.Edits.{map_over_more}
use Rattle.c_model.specs.declared.graph.Ref.{Ref}
use Rattle.c_model.specs.declared.graph.Ref.TheVariants.{Void}
use Rattle.split_base.specs.Graphs.{moved}
use Rattle.split_base.proofs.graph.moved_by.Goals as goal

pub loop-target-preserved : goal.loop-target-preserved
loop-target-preserved c =
    let items : List Ref = c.loop-target.target-items in
    let i : ℕ = c.loop-target.target-index in
    let same = ap length (c.deref_mut-target-items.ensures.value ∙ c.into_items-targets.ensures) in
    let within : i < length items = omega (arith, same, c.loop-target.auto.target-items) in
    let old : Ref = get_or items i Void in
    rw (c.moved_target.ensures, get_or_default items i _ Void within)
    (map_over_more (moved c.args.count) c.args.t.targets items i old
    (omega (arith, same)) c.loop-target.invariant (get_or_default items i Void old within))
