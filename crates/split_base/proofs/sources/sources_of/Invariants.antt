use Rattle.std.proofs.Common.{◌≡◌, map, take}
use Rattle.split_base.specs.Building.{source_by}
use Rattle.split_base.proofs.sources.sources_of.Given as goal

abbrev pub invariant-loop-i : goal.invariant-loop-i
invariant-loop-i b l = l.sources.items ≡ map
    (source_by (b.G.TypeGraph.shape l.graph) l.places.nodes.items) (take l.i l.places.firsts.items)
