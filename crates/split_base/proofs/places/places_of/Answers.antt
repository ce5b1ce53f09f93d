use Rattle.std.proofs.Common.{◌++◌, ◌∷◌, [], ℕ, List, ap, ◌∙◌, sym, arith, map}
use Rattle.std.specs.List.{range_with_len}
use Rattle.std.proofs.lemmas.List.FromFn.{map-range_with_len_more}
use Rattle.split_base.specs.Table.{place_of}
use Rattle.split_base.proofs.places.places_of.Goals as goal

pub loop-x-preserved : goal.loop-x-preserved
loop-x-preserved b c = record {
  placed = c.in_ok-class_place.ensures.after;
  nodes =
      c.in_ok-push.ensures.items
      ∙ ap (λ (xs : List ℕ). xs ++ c.in_ok-class_place.field-0 ∷ []) c.loop-x.invariant.nodes
      ∙ ap (λ (k : ℕ). map (place_of (b.G.TypeGraph.shape c.args.graph.now) c.args.classes.now)
      (range_with_len 0 c.loop-x.x) ++ k ∷ []) c.in_ok-class_place.ensures.place
      ∙ sym (map-range_with_len_more (place_of (b.G.TypeGraph.shape c.args.graph.now)
      c.args.classes.now) 0 c.loop-x.x c.loop-x.x (omega arith));
}
