use Rattle.std.proofs.Common.{◌≡◌, length}
use Rattle.unit_graph.specs.Tags.{tag_in}
use Rattle.unit_graph.proofs.tags.tag_in_walk.Given as goal

abbrev pub invariant-entries : goal.invariant-entries
invariant-entries l = tag_in l.to l.walk.entries ≡ tag_in l.to l.initial.walk.entries

abbrev pub decreases-entries : goal.decreases-entries
decreases-entries l = length l.walk.entries
