use Rattle.std.proofs.Common.{◌++◌, ◌∷◌, [], ℕ, List, take, ap, sym, ◌∙◌}
use Rattle.std.specs.List.{filter_map}
use Rattle.std.proofs.lemmas.List.{append_assoc}
use Rattle.c_model.specs.declared.graph.CType.{CType}
use Rattle.split_base.specs.Building.{type_by}
use Rattle.split_base.proofs.Taking.{filter_map-take_more}
use Rattle.split_base.proofs.types.types_of.Goals as goal

pub loop-source-preserved : goal.loop-source-preserved
loop-source-preserved b c =
    let g = b.G.TypeGraph.shape c.args.graph.now in
    let i : ℕ = c.loop-source.source-index in
    let t : CType = c.in_ok-renamed_node.field-0 in
    let before : List CType = take g.base g.nodes in
    let own : List CType = filter_map (type_by g c.args.places.now) (take i c.args.sources.now) in
    c.in_ok-push.ensures.items ∙ ap (λ (ts : List CType). ts ++ t ∷ []) c.loop-source.invariant
    ∙ append_assoc before own (t ∷ [])
    ∙ ap (λ (ts : List CType). before ++ ts)
    (sym (filter_map-take_more (type_by g c.args.places.now) c.args.sources.now i t
    c.loop-source-test.true c.in_ok-renamed_node.ensures))
