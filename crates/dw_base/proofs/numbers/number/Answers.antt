use Rattle.std.proofs.Common.{◌≡◌, ◌+◌, ◌-◌, ℕ, List, take, drop, reverse, sym, ap, ◌∙◌, arith}
use Rattle.dw_base.specs.Numbers.{sum_of}
use Rattle.dw_base.proofs.Numbering.{is_out, is_in, byte_in, little_sum, big_sum, piece_length}
use Rattle.dw_base.proofs.Numbering.{piece_taken}
use Rattle.dw_base.specs.declared.numbers.Order.TheVariants.{Little, Big}
use Rattle.dw_base.proofs.numbers.number.Goals as goal
use Rattle.dw_base.proofs.numbers.number.Goals.{then-at-len-via-then-at-len}
use Rattle.dw_base.proofs.numbers.number.Goals.{then-at-len-via-else-at-len+then-len-at}

pub returns-then-at-len : goal.returns-then-at-len
returns-then-at-len c =
    sym
    (is_out c.args.bytes.now c.args.at c.args.width c.args.order
    (elim c.then-at-len.branch [
      | then-at-len-via-then-at-len w ↦ omega (arith, c.requires.low)
      | then-at-len-via-else-at-len+then-len-at w ↦ omega (arith, w.from.ensures)
    ]))

pub returns-in-Little : goal.returns-in-Little
returns-in-Little c =
    let width : c.args.at + c.args.width - c.args.at ≡ c.args.width = omega arith in
    rw c.in-Little.is
    (is_in c.args.bytes.now c.args.at c.args.width c.read.result Little
    (omega (arith, c.from.ensures))
    (rw width at c.read.ensures
    ∙ little_sum c.args.width 0 (take c.args.width (drop c.args.at c.args.bytes.now))
    (piece_length c.args.bytes.now c.args.at c.args.width (omega (arith, c.from.ensures)))
    ∙ ap sum_of
    (piece_taken c.args.bytes.now c.args.at c.args.width (omega (arith, c.from.ensures)))))

pub returns-in-Big : goal.returns-in-Big
returns-in-Big c =
    let width : c.args.at + c.args.width - c.args.at ≡ c.args.width = omega arith in
    rw c.in-Big.is
    (is_in c.args.bytes.now c.args.at c.args.width c.read-in-Big.result Big
    (omega (arith, c.from.ensures))
    (rw width at c.read-in-Big.ensures
    ∙ big_sum c.args.width 0 (take c.args.width (drop c.args.at c.args.bytes.now))
    (piece_length c.args.bytes.now c.args.at c.args.width (omega (arith, c.from.ensures)))
    ∙ ap (λ (xs : List ℕ). sum_of (reverse xs))
    (piece_taken c.args.bytes.now c.args.at c.args.width (omega (arith, c.from.ensures)))))

pub returns-then-width-eq1 : goal.returns-then-width-eq1
returns-then-width-eq1 c =
    rw c.if-width-eq1.true
    (byte_in c.args.bytes.now c.args.at c.from-then-width-eq1.result c.args.order
    (omega (arith, c.from.ensures, c.if-width-eq1.true))
    (omega (arith, c.from-then-width-eq1.ensures)))
