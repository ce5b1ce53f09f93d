use Rattle.std.proofs.Common.{sym, ◌∙◌}
use Rattle.unit_graph.proofs.Finding.{tag_outside}
use Rattle.unit_graph.proofs.tags.tag_of_unit.Goals as goal

pub returns-then-not-is_inside : goal.returns-then-not-is_inside
returns-then-not-is_inside c = tag_outside c.args.file c.args.to c.args.at.now
    (sym c.is_inside.ensures ∙ c.if-not-is_inside.true)
