use Rattle.std.proofs.Common.{◌≡◌, ◌++◌, drop}
use Rattle.std.specs.List.{flat_map}
use Rattle.shown_types.specs.Listed.{places_named, missing_from}
use Rattle.shown_types.proofs.choosing.choose_by.Given as goal

-- no name so far is missing, and the places of each are there
abbrev pub invariant-loop-i : goal.invariant-loop-i
invariant-loop-i l =
    (missing_from l.types l.i (drop l.i l.names) ≡ missing_from l.types 0 l.names)
    × (l.all.items ++ flat_map (places_named l.types) (drop l.i l.names)
    ≡ flat_map (places_named l.types) l.names)
