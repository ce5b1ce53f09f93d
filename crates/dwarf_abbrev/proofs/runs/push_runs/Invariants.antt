use Rattle.std.proofs.Common.{◌≡◌, ◌++◌, List, length}
use Rattle.dwarf_abbrev.specs.ValueMaps.{IsRun, AreRuns}
use Rattle.dwarf_abbrev.specs.declared.runs.FixedRun.{FixedRun}
use Rattle.dwarf_abbrev.proofs.runs.push_runs.Given as goal

abbrev pub invariant-loop-index : goal.invariant-loop-index
invariant-loop-index l = record {
  here : IsRun l.specs l.index l.run;
  so_far : (more : List FixedRun) × (l.runs.items ≡ l.fn.runs.items ++ more)
      × AreRuns l.specs more × (length more ≡ l.index);
}
