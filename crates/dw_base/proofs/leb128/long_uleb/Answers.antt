use Rattle.std.proofs.Common.{refl, arith}
use Rattle.dw_base.specs.Leb128.{uleb_of}
use Rattle.dw_base.proofs.Digits.{starts, reads_on, is_cut, unsigned_end}
use Rattle.dw_base.proofs.leb128.long_uleb.Goals as goal

pub loop-i-init : goal.loop-i-init
loop-i-init c = starts c.args.bytes.now c.args.at _ refl

pub returns-then-byte-lt128 : goal.returns-then-byte-lt128
unfolding uleb_of
returns-then-byte-lt128 c =
    unsigned_end c.args.bytes.now c.args.at c.loop-i.i c.from.result c.loop-i.sum c.add_digit-sum.result
    c.fit_unsigned.result c.loop-i.auto.i c.loop-i-test.true c.from.ensures
    (omega (arith, c.from.ensures, c.if-byte-lt128.true)) c.loop-i.invariant (λ n total h.
    c.add_digit-sum.ensures.sums n total h) (λ n total h. c.fit_unsigned.ensures n total h)

pub loop-i-preserved : goal.loop-i-preserved
loop-i-preserved c =
    reads_on c.args.bytes.now c.args.at c.loop-i.i c.from.result c.loop-i.sum c.add_digit-sum.result
    c.loop-i.auto.i c.loop-i-test.true c.from.ensures
    (omega (arith, c.from.ensures, c.if-byte-lt128.false)) c.loop-i.invariant
    c.add_digit-sum.ensures.even (λ n total h. c.add_digit-sum.ensures.sums n total h)

pub returns : goal.returns
unfolding uleb_of
returns c = rw (is_cut c.args.bytes.now c.args.at c.loop-i.i c.loop-i.sum c.loop-i-test.false
    c.loop-i.invariant) refl
