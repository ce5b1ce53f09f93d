use Rattle.std.proofs.Common.{[]}
use Rattle.unit_graph.specs.Links.{refs_from}
use Rattle.unit_graph.proofs.Linking.{refs_go_on, refs_stop, refs_end}
use Rattle.unit_graph.proofs.links.link_targets.Goals as goal

pub returns-in-Err : goal.returns-in-Err
returns-in-Err c all numbers count =
    refs_stop all c.args.file c.args.index c.args.targets.now c.loop-i.i c.loop-i.refs.items _
    c.in-Err.out
    (refs_from all c.args.file c.args.index [] c.args.targets.now) c.loop-i-test.true
    (c.in-Err.ensures all numbers count) (c.loop-i.invariant all numbers count)

pub loop-i-preserved : goal.loop-i-preserved
loop-i-preserved c all numbers count =
    refs_go_on all c.args.file c.args.index c.args.targets.now c.loop-i.i c.loop-i.refs.items
    c.push.new.self.items _ c.in-Ok.found (refs_from all c.args.file c.args.index
    [] c.args.targets.now) c.loop-i-test.true (c.in-Ok.ensures all numbers count)
    c.in_ok-push-in-Ok.ensures.items (c.loop-i.invariant all numbers count)

pub returns : goal.returns
returns c all numbers count =
    refs_end all c.args.file c.args.index c.args.targets.now c.loop-i.i c.loop-i.refs.items
    (refs_from all c.args.file c.args.index [] c.args.targets.now) c.loop-i-test.false
    (c.loop-i.invariant all numbers count)
