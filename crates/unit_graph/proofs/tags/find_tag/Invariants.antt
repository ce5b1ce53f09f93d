use Rattle.std.proofs.Common.{◌≡◌, drop}
use Rattle.unit_graph.specs.Tags.{tag_of}
use Rattle.unit_graph.proofs.tags.find_tag.Given as goal

abbrev pub invariant-loop-i : goal.invariant-loop-i
invariant-loop-i l = tag_of l.file l.to (drop l.i l.units) ≡ tag_of l.file l.to l.units
