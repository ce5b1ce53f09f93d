use Rattle.std.proofs.Common.{◌<◌, [], length}
use Rattle.func_types.specs.declared.protos.Func.{Func}
use Rattle.func_types.proofs.Agreeing.{all_read}
use Rattle.func_types.proofs.Building.{put_node, pushed_prototype}
use Rattle.func_types.proofs.nodes.copy_prototypes.Goals as goal

pub loop-place-preserved : goal.loop-place-preserved
loop-place-preserved c =
    let nodes = c.args.graph.now.nodes in
    let func = c.func_at-func.result.now in
    pushed_prototype nodes [] c.loop-place.protos.items c.push.new.self.items c.args.funcs.now
    c.args.places.now c.loop-place.place-index func c.loop-place-test.true c.func_at-func.ensures
    (all_read (λ (f : Func). f.proto < length nodes) c.args.funcs.now _ func c.requires.protos
    c.func_at-func.ensures) c.loop-place.invariant
    (put_node nodes c.loop-place.protos.items c.push.new.self.items func.proto _
    c.in_ok-node_of.ensures c.in_ok-push.ensures.items)
