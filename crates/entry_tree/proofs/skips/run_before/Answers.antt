use Rattle.std.proofs.Common.{◌≡◌, ◌+◌, ◌-◌, ℕ, subst, arith}
use Rattle.dwarf_abbrev.specs.ValueMaps.{IsRun}
use Rattle.entry_tree.proofs.skips.run_before.Goals as goal

pub returns-in-Some : goal.returns-in-Some
returns-in-Some c =
    let before : c.args.end - 1 ≡ c.args.start + c.in-Some.run'.values =
    omega (arith, c.if-run-end.true, c.requires) in
    subst (λ (i : ℕ). IsRun c.args.abbreviation.now.specs.now i c.in-Some.run') before
    c.in-Some.ensures.run
