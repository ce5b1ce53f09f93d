use Rattle.std.proofs.Common.{sym, ◌∙◌}
use Rattle.unit_graph.specs.Tags.{tag_of}
use Rattle.unit_graph.proofs.Finding.{tag_found, tag_later, no_tag}
use Rattle.unit_graph.proofs.tags.find_tag.Goals as goal

pub returns-in-Some : goal.returns-in-Some
returns-in-Some c =
    tag_found c.args.file c.args.to c.args.units.now c.loop-i.i c.index-units-i.result c.in-Some.tag
    (tag_of c.args.file c.args.to c.args.units.now) c.loop-i-test.true c.index-units-i.is
    (sym c.in-Some.is ∙ c.in_ok-tag.ensures) c.loop-i.invariant

pub loop-i-preserved : goal.loop-i-preserved
loop-i-preserved c = tag_later c.args.file c.args.to c.args.units.now c.loop-i.i
    c.index-units-i.result (tag_of c.args.file c.args.to c.args.units.now) c.loop-i-test.true
    c.index-units-i.is (sym c.in_default.is ∙ c.in_ok-tag.ensures) c.loop-i.invariant

pub returns : goal.returns
returns c = no_tag c.args.file c.args.to c.args.units.now c.loop-i.i
    (tag_of c.args.file c.args.to c.args.units.now) c.loop-i-test.false c.loop-i.invariant
