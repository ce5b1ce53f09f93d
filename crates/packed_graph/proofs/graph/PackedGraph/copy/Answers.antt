use Rattle.std.proofs.Common.{◌≡◌, ◌++◌, List, ap, length, subst, sym, ◌∙◌}
use Rattle.c_model.specs.declared.graph.CType.{CType}
use Rattle.c_model.specs.Graph.{IsSound}
use Rattle.packed_graph.specs.Packed.{moved_by}
use Rattle.packed_graph.proofs.Joining.{moved_by-none}
use Rattle.packed_graph.proofs.graph.PackedGraph.copy.Goals.{In_ok-nodes}
use Rattle.packed_graph.proofs.graph.PackedGraph.copy.Goals as goal

same_nodes : (c : In_ok-nodes) → c.in_ok-nodes.nodes ≡ c.self.inside.list
same_nodes c =
    c.in_ok-nodes.ensures
    ∙ ap (λ (ns : List CType). ns ++ moved_by (length ns) c.self.inside.list) c.in_ok-new.ensures
    ∙ moved_by-none c.self.inside.list

pub invariant_of-result : goal.invariant_of-result
invariant_of-result c = subst (IsSound c.self.inside.count)
    (sym (same_nodes (goal.at.invariant_of-result c).In_ok-nodes)) c.self.invariant

pub returns : goal.returns
returns c = rw (← c.self.view_is) (λ i. record {
  base = c.self.inside.count;
  nodes = same_nodes (goal.at.returns c).In_ok-nodes i;
})
