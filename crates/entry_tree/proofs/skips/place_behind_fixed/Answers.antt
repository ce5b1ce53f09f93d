use Rattle.std.proofs.Common.{arith}
use Rattle.dwarf_forms.specs.Values.{within}
use Rattle.entry_tree.proofs.Ends.{ends_none}
use Rattle.entry_tree.proofs.Fixed.{run_passed_by}
use Rattle.entry_tree.proofs.skips.place_behind_fixed.Goals as goal

pub returns-then-run-count : goal.returns-then-run-count
returns-then-run-count c =
    run_passed_by (within c.args.ctx.now) c.args.abbreviation.now.specs.now 0 c.args.count
    c.args.from c.args.from c.in_ok-run.run' c.place_behind_run.result c.in_ok-run.ensures.run
    (omega (arith, c.if-run-count.true)) c.place_behind_run.ensures.sum
    c.place_behind_run.ensures.inside (ends_none (within c.args.ctx.now) c.args.from)
