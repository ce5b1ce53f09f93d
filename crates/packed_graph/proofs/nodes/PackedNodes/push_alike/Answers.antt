use Rattle.std.proofs.Common.{◌≡◌, ◌+◌, ◌++◌, ◌∷◌, [], Some, get_or, length, subst, sym}
use Rattle.std.proofs.Common.{◌∙◌, ap, arith}
use Rattle.std.proofs.lemmas.List.{get_or_read}
use Rattle.std.proofs.lemmas.Option.{same_Some}
use Rattle.c_model.specs.declared.label.Label.{Label}
use Rattle.c_model.specs.declared.graph.CType.{CType}
use Rattle.c_model.specs.Partition.{label_at}
use Rattle.packed_graph.specs.Packed.{IsPacked, no_label, nodes_of}
use Rattle.packed_graph.proofs.Inside.{columns}
use Rattle.packed_graph.proofs.Pushing.{IsPacked-by, nodes_of-by, same_columns, takes_label}
use Rattle.packed_graph.proofs.Reading.{label_at-nodes_of, node-within}
use Rattle.packed_graph.proofs.nodes.PackedNodes.push_alike.Goals as goal

pub index-place-requires : goal.index-place-requires
index-place-requires c = let h = node-within (columns c.self.inside) c.args.x
    (rw (← c.self.view_is) at c.requires.node) in omega (arith, c.self.inside.rows.numbers.ok.0, h)

pub invariant_of-self : goal.invariant_of-self
invariant_of-self c = subst (λ k. IsPacked k)
    (sym (same_columns c.self.inside.labels.keys _ _ c.reserve.ensures.same)) c.self.invariant

pub invariant_of-self-2 : goal.invariant_of-self-2
invariant_of-self-2 c =
    let s = columns c.self.inside in
    let h = node-within s c.args.x (rw (← c.self.view_is) at c.requires.node) in
    let place = c.index-place.result.now in
    let at : get_or s.numbers c.args.x 0 ≡ place =
    sym (get_or_read s.numbers c.args.x place h c.index-place.ensures 0) in
    let is : c.in_ok-end.end ≡ length s.words + length c.args.targets.now =
    omega (arith, c.in_ok-end.ensures.end) in
    IsPacked-by s.labels c.self.inside.rows c.self.invariant s.labels (get_or s.labels place
    no_label) place (takes_label s c.self.invariant c.args.x place h at) c.args.targets.now
    c.in_ok-end.end is _ c.in_ok-end.ensures.same _ c.in_ok-push.ensures.row

pub returns-clause-pushed : goal.returns-clause-pushed
returns-clause-pushed c l labelled =
    let s = columns c.self.inside in
    let h = node-within s c.args.x (rw (← c.self.view_is) at c.requires.node) in
    let place = c.index-place.result.now in
    let at : get_or s.numbers c.args.x 0 ≡ place =
    sym (get_or_read s.numbers c.args.x place h c.index-place.ensures 0) in
    let is : c.in_ok-end.end ≡ length s.words + length c.args.targets.now =
    omega (arith, c.in_ok-end.ensures.end) in
    let found : label_at (nodes_of s) c.args.x ≡ Some l = rw (← c.self.view_is) at labelled in
    let own : get_or s.labels place no_label ≡ l = ap (λ n. get_or s.labels n no_label) (sym at)
    ∙ same_Some (get_or s.labels (get_or s.numbers c.args.x 0) no_label) l
    (sym (label_at-nodes_of s c.args.x h) ∙ found) in
    rw (← c.self.view_is) (nodes_of-by s.labels c.self.inside.rows c.self.invariant s.labels
    (get_or s.labels place no_label) place (takes_label s c.self.invariant c.args.x place h at)
    c.args.targets.now c.in_ok-end.end is _ c.in_ok-end.ensures.same _ c.in_ok-push.ensures.row
    ∙ ap (λ (k : Label). nodes_of s
    ++ (let t : CType = record { label = k; targets = c.args.targets.now } in t) ∷ []) own)
