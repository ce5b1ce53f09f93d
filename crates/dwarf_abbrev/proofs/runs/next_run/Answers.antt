use Rattle.std.proofs.Common.{◌≡◌, ◌+◌, ◌-◌, arith}
use Rattle.dwarf_abbrev.proofs.Mapping.{run_grows, empty_run}
use Rattle.dwarf_abbrev.proofs.runs.next_run.Goals as goal

pub returns-in-Some : goal.returns-in-Some
returns-in-Some c =
    let more = c.in-Some.ensures.values in
    let begin : c.args.index + 1 - c.in-Some.longer.values ≡ c.args.index - c.args.run.values =
    omega (arith, more, c.requires.run.0) in (
      omega (arith, more, c.requires.run.0),
      rw begin (run_grows c.args.specs.now c.args.index (c.args.index - c.args.run.values) _
          c.args.run c.in-Some.longer c.requires.inside (omega arith) c.requires.run.1
          c.in-Some.ensures.total),
    )

pub returns-in-None : goal.returns-in-None
returns-in-None c = empty_run c.args.specs.now (c.args.index + 1)
