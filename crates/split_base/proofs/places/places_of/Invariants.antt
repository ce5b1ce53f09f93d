use Rattle.std.proofs.Common.{◌≡◌, map, nat_eq}
use Rattle.std.specs.HashMap.{get}
use Rattle.std.specs.List.{range_with_len}
use Rattle.split_base.specs.Table.{place_of}
use Rattle.split_base.specs.Building.{IsPlaced}
use Rattle.split_base.proofs.places.places_of.Given as goal

abbrev pub invariant-loop-x : goal.invariant-loop-x
invariant-loop-x b l = record {
  placed : IsPlaced (b.G.TypeGraph.shape l.graph) l.classes l.x (get nat_eq l.known) l.firsts.items;
  nodes : l.nodes.items
      ≡ map (place_of (b.G.TypeGraph.shape l.graph) l.classes) (range_with_len 0 l.x);
}
