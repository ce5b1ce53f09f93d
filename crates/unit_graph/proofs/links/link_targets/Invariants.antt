use Rattle.std.proofs.Common.{◌≡◌, [], List, length, drop}
use Rattle.unit_graph.specs.Sources.{Source}
use Rattle.unit_graph.specs.Links.{refs_from}
use Rattle.unit_graph.specs.Numbers.{Numbers}
use Rattle.unit_graph.proofs.links.link_targets.Given as goal

abbrev pub invariant-loop-i : goal.invariant-loop-i
invariant-loop-i l = (all : List Source) → Numbers l.places all → length all ≡ l.count → refs_from
    all l.file l.index l.refs.items (drop l.i l.targets) ≡ refs_from all l.file l.index [] l.targets
