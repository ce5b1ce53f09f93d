use Rattle.std.proofs.Common.{ap, ◌∙◌, Option, ℕ, is_some, arith, length}
use Rattle.shown_types.specs.Listed.{is_listed, structures_from}
use Rattle.shown_types.proofs.Ranges.{kept_more}
use Rattle.shown_types.proofs.listed.structures_from.Goals as goal

pub loop-x-preserved : goal.loop-x-preserved
loop-x-preserved c =
    kept_more (is_listed c.args.types.now) c.loop-x.x
    (length c.args.types.now) c.is_some.result c.loop-x.all.items c.push_if.new.all.items
    (structures_from c.args.types.now c.args.from) (omega arith)
    (c.is_some.ensures ∙ ap (λ (o : Option ℕ). is_some o) c.structure_at.ensures)
    c.in_ok-push_if.ensures c.loop-x.invariant
