use Rattle.std.proofs.Common.{◌+◌, refl, arith}
use Rattle.dwarf_forms.specs.Values.{within}
use Rattle.entry_tree.proofs.Ends.{ends_none}
use Rattle.entry_tree.proofs.Fixed.{run_passed, run_passed_by}
use Rattle.entry_tree.proofs.skips.place_behind_runs.Goals as goal

pub runs-init : goal.runs-init
runs-init c = ends_none (within c.args.ctx.now) c.args.from

pub runs-preserved : goal.runs-preserved
runs-preserved c =
    c.in_ok-at.ensures c.args.from
    (run_passed (within c.args.ctx.now) c.args.abbreviation.now.specs.now c.runs.reached
    (c.runs.reached + c.run_before-run.result.values) c.args.from c.runs.at c.in_ok-start.start
    c.run_before-run.result c.run_before-run.ensures refl c.in_ok-start.ensures.sum
    c.in_ok-start.ensures.inside c.runs.invariant)

pub returns : goal.returns
returns c =
    run_passed_by (within c.args.ctx.now) c.args.abbreviation.now.specs.now c.runs.reached
    c.args.count c.args.from c.runs.at c.in_ok-last.last c.place_behind_run-2.result
    c.in_ok-last.ensures.run
    (omega (arith, c.if-reached-tail.false, (c.in_ok-last.ensures.run).0))
    c.place_behind_run-2.ensures.sum c.place_behind_run-2.ensures.inside c.runs.invariant
