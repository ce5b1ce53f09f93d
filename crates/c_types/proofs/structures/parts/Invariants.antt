use Rattle.std.proofs.Common.{◌≡◌, map, take}
use Rattle.c_types.specs.Opened.{part_from}
use Rattle.c_types.proofs.structures.parts.Given as goal

abbrev pub invariant-loop-member : goal.invariant-loop-member
invariant-loop-member l = l.parts.items ≡ map (part_from l.fields) (take l.member-index l.members)
