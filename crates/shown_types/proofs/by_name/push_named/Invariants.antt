use Rattle.std.proofs.Common.{◌++◌}
use Rattle.shown_types.specs.Listed.{places_named}
use Rattle.shown_types.proofs.Naming.{IsGoing}
use Rattle.shown_types.proofs.by_name.push_named.Given as goal

-- the places of the name so far
abbrev pub invariant-loop : goal.invariant-loop
invariant-loop l = IsGoing l.types l.name l.counter l.all.items
    (l.fn.all.items ++ places_named l.types l.name) l.at
