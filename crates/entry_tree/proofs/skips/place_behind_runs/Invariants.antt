use Rattle.std.proofs.Common.{◌≡◌, ◌-◌, take, Ok}
use Rattle.dwarf_forms.specs.Values.{within}
use Rattle.entry_tree.specs.Reads.{ends_at}
use Rattle.entry_tree.proofs.skips.place_behind_runs.Given as goal

abbrev pub invariant-runs : goal.invariant-runs
invariant-runs l =
    ends_at (within l.ctx) (take l.reached l.abbreviation.specs.now) l.from ≡ Ok l.at

abbrev pub decreases-runs : goal.decreases-runs
decreases-runs l = l.tail - l.reached
