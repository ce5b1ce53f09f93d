use Rattle.std.proofs.Common.{◌≡◌, ◌++◌, take}
use Rattle.std.specs.List.{filter_map}
use Rattle.split_base.specs.Building.{type_by}
use Rattle.split_base.proofs.types.types_of.Given as goal

abbrev pub invariant-loop-source : goal.invariant-loop-source
invariant-loop-source b l =
    let g = b.G.TypeGraph.shape l.graph in
    l.types.items
    ≡ take g.base g.nodes ++ filter_map (type_by g l.places) (take l.source-index l.sources)
