use Rattle.std.proofs.Common.{◌≡◌, ◌+◌, subst, arith}
use Rattle.dwarf_abbrev.specs.ValueMaps.{IsRun}
use Rattle.dwarf_abbrev.proofs.row.Abbrev.longer_run.Goals as goal

pub returns-in-Some : goal.returns-in-Some
returns-in-Some c =
    let run = c.in-Some.longer in
    let end : c.saturating_add-end.result ≡ c.args.start + run.values = omega (
      arith,
      c.if-longer-end.true,
      c.saturating_add.ensures,
      c.saturating_add-end.ensures,
      c.ranges.start.fits,
    ) in
    subst (λ n. IsRun c.args.self.now.specs.now n run) end c.in-Some.ensures.run
