use Rattle.std.proofs.Common.{◌≡◌, length}
use Rattle.split_base.specs.Building.{IsNoted}
use Rattle.split_base.proofs.sources.plain_nodes.Given as goal

abbrev pub invariant-loop-x : goal.invariant-loop-x
invariant-loop-x b l = record {
  len : length l.plain.items ≡ l.own;
  noted : IsNoted (b.G.TypeGraph.shape l.graph) l.places l.x l.plain.items;
}
