use Rattle.std.proofs.Common.{◌≡◌, ◌^◌, pos, negsuc, ◌+ℤ◌, ◌-ℤ◌, arith, FitsSigned, to_z, of_z, w64}
use Rattle.std.proofs.lemmas.Int.{ints, to_z-of_z, to_z_pos}
use Rattle.dw_base.proofs.Signed.{does_fit, low_total, small_negative, high_negative, too_negative}
use Rattle.dw_base.proofs.leb128.fit_signed.Goals as goal

pub overflow_sub-result : goal.overflow_sub-result
overflow_sub-result c =
    let s = c.args.sum in
    let p = small_negative s.low s.shift c.if-sum-lt63.true (c.requires.below (omega arith)) in
    rw p.0 p.1

pub returns-then-sum-lt63 : goal.returns-then-sum-lt63
returns-then-sum-lt63 c n total h =
    let s = c.args.sum in
    let p = small_negative s.low s.shift c.if-sum-lt63.true (c.requires.below (omega arith)) in
    let t = low_total s n total (omega arith) h in
    rw (c.if-negative.true, t.0, t.1, p.0) (does_fit (pos s.low -ℤ pos (2 ^ s.shift))
    (to_z w64 (of_z w64 (pos s.low -ℤ pos (2 ^ s.shift)))) c.args.end
    (to_z-of_z w64 (pos s.low -ℤ pos (2 ^ s.shift)) p.1) p.1)

pub returns-then-sum : goal.returns-then-sum
returns-then-sum c n total h =
    let s = c.args.sum in
    let e = high_negative s n total (omega arith) c.requires.fits h c.if-sum.true in
    let a : to_z w64 s.low ≡ pos s.low = to_z_pos w64 s.low c.requires.fits in
    let f : FitsSigned w64 (pos s.low +ℤ negsuc 9223372036854775807) =
    omega (arith, ints, c.requires.fits) in
    rw (c.if-negative.true, e, a) (does_fit (pos s.low +ℤ negsuc 9223372036854775807)
    (to_z w64 (of_z w64 (pos s.low +ℤ negsuc 9223372036854775807))) c.args.end
    (to_z-of_z w64 (pos s.low +ℤ negsuc 9223372036854775807) f) f)

pub returns-else-sum : goal.returns-else-sum
returns-else-sum c n total h =
    let s = c.args.sum in
    rw c.if-negative.true
    (too_negative s n total c.args.end (omega arith) c.requires.fits h c.if-sum.false)
