use Rattle.std.proofs.Common.{◌-◌, List, length, Ok, sym, ap, ◌∙◌, arith}
use Rattle.std.proofs.lemmas.Result.{err_from_is_err_and}
use Rattle.entry_tree.specs.Units.{units_of}
use Rattle.entry_tree.specs.declared.unit.Unit.{Unit}
use Rattle.entry_tree.proofs.Following.{ends, fails, goes_on, runs_out, end_inside, gives_fault}
use Rattle.entry_tree.proofs.Following.{begins}
use Rattle.entry_tree.proofs.headers.read_units.Goals as goal

pub loop-init : goal.loop-init
loop-init c = record {
  inside = omega arith;
  so_far = rw c.new-units.ensures.items (begins c.args.info.now c.args.order);
}

pub returns-then-at-info : goal.returns-then-at-info
returns-then-at-info c =
    ends c.args.info.now c.args.order (length c.args.info.now - c.loop.counter) c.loop.at
    c.loop.units.items c.if-at-info.true c.loop.invariant.so_far
    ∙ ap (λ (us : List Unit). Ok us) (sym c.new.ensures)

pub returns-in_err-unit : goal.returns-in_err-unit
returns-in_err-unit c =
    let p = err_from_is_err_and c.from_residual.result c.from_residual.ensures.1 in
    rw (p.1, p.2)
    (gives_fault c.in_err-unit.field-0.0 (units_of c.args.info.now c.args.order)
    (fails c.args.info.now c.args.order
    (length c.args.info.now) c.loop.counter c.loop.at c.loop.units.items c.in_err-unit.field-0.0
    c.loop-test.true c.if-at-info.false c.in_err-unit.ensures c.loop.invariant.so_far))

pub loop-preserved : goal.loop-preserved
loop-preserved c =
    record {
      inside =
          end_inside c.args.info.now c.args.order c.loop.at c.in_ok-unit.unit c.in_ok-unit.ensures;
      so_far = rw c.in_ok-push.ensures.items
          (goes_on c.args.info.now c.args.order
          (length c.args.info.now) c.loop.counter c.loop.at c.loop.units.items c.in_ok-unit.unit
          c.loop-test.true c.if-at-info.false c.in_ok-unit.ensures c.loop.invariant.so_far);
    }

pub returns : goal.returns
returns c =
    runs_out c.args.info.now c.args.order (length c.args.info.now) c.loop.counter c.loop.at
    c.loop.units.items c.loop-test.false c.loop.invariant.so_far
    ∙ ap (λ (us : List Unit). Ok us) (sym c.new-2.ensures)
