use Rattle.std.proofs.Common.{Some, sym, ◌∙◌, ap}
use Rattle.c_model.specs.declared.label.Label.{Label}
use Rattle.packed_graph.proofs.Unpacking.{node-read}
use Rattle.packed_graph.proofs.unpack.node_of.Goals as goal

pub returns : goal.returns
returns b c =
    let s = b.G.TypeGraph.shape c.args.graph.now in
    let label = c.label.ensures ∙ ap (λ (l : Label). Some l) (sym c.in_ok-copy_of_label.ensures) in
    let targets = sym (c.new.ensures ∙ c.in_ok-targets_of.ensures) in
    node-read s.nodes c.args.x c.in_ok-copy_of_label.field-0 c.new.result label targets
