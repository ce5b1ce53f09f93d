use Rattle.std.proofs.Common.{◌+◌, ◌-◌, ◌<◌, length}
use Rattle.dwarf_abbrev.specs.ValueMaps.{IsRun}
use Rattle.dwarf_abbrev.proofs.row.Abbrev.run_from.Given as goal

abbrev pub invariant-loop-step : goal.invariant-loop-step
invariant-loop-step l = 0 < l.step

abbrev pub decreases-loop-step : goal.decreases-loop-step
decreases-loop-step l = length l.self.specs.now - l.step

abbrev pub invariant-loop-step-2 : goal.invariant-loop-step-2
invariant-loop-step-2 l = IsRun l.self.specs.now (l.start + l.run.values) l.run

abbrev pub decreases-loop-step-2 : goal.decreases-loop-step-2
decreases-loop-step-2 l = l.step
