use Rattle.std.proofs.Common.{◌≤◌, refl, arith}
use Rattle.dw_base.specs.Sums.{IsEven}
use Rattle.dw_base.proofs.Adding.{shifted, even_step, low_sums, high_sums}
use Rattle.dw_base.proofs.leb128.add_digit.Goals as goal

pub overflow_add-result : goal.overflow_add-result
overflow_add-result c =
    let s = c.args.sum in
    let r : IsEven s.low s.shift = c.requires.even in
    let le : s.shift ≤ 56 = omega (arith, r.steps) in
    let e = even_step s.low c.args.digit s.shift c.requires.digit c.if-sum-lt63.true r in
    rw (shifted c.args.digit s.shift c.requires.digit le) (omega (arith, e.fits))

pub returns-then-sum-lt63-clause-even : goal.returns-then-sum-lt63-clause-even
returns-then-sum-lt63-clause-even c =
    let s = c.args.sum in
    let r : IsEven s.low s.shift = c.requires.even in
    let le : s.shift ≤ 56 = omega (arith, r.steps) in
    rw (shifted c.args.digit s.shift c.requires.digit le)
    (even_step s.low c.args.digit s.shift c.requires.digit c.if-sum-lt63.true r)

pub returns-then-sum-lt63-clause-sums : goal.returns-then-sum-lt63-clause-sums
returns-then-sum-lt63-clause-sums c n total h =
    let s = c.args.sum in
    let r : IsEven s.low s.shift = c.requires.even in
    let le : s.shift ≤ 56 = omega (arith, r.steps) in
    rw (shifted c.args.digit s.shift c.requires.digit le)
    (low_sums s c.args.digit n total c.requires.digit c.if-sum-lt63.true r h)

pub returns-else-sum-lt63-clause-sums : goal.returns-else-sum-lt63-clause-sums
returns-else-sum-lt63-clause-sums c n total h =
    high_sums c.args.sum c.args.digit n total _ _ _ c.requires.digit c.if-sum-lt63.false
    c.requires.even refl c.is_one.ensures refl h
