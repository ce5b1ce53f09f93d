-- When a signed number fits.
use Rattle.std.proofs.Common.{◌≡◌, ℕ, ◌+◌, ◌-◌, ◌*◌, ◌%◌, ◌^◌, ◌<◌, ◌≤◌, ℤ, pos, negsuc, ◌-ℤ◌, ◌+ℤ◌}
use Rattle.std.proofs.Common.{true, false, Result, Ok, Err, if◌then◌else◌, nat_lt, refl, sym, ap}
use Rattle.std.proofs.Common.{◌∙◌, arith, suc, ◌⊎◌, inl, inr, FitsSigned, to_z, w64}
use Rattle.std.proofs.lemmas.Int.{ints, to_z_pos}
use Rattle.std.proofs.lemmas.Nat.{one_shl}
use Rattle.std.proofs.Math.Nat.{pow-le-pow_right}
use Rattle.std.proofs.lemmas.Bool.{lt-ltb, le-ltb, cases_eq, eqb-true, eqb-false}
use Rattle.dw_base.specs.Leb128.{fits_i64}
use Rattle.dw_base.specs.Sums.{Sums}
use Rattle.dw_base.specs.declared.leb128.Sum.{Sum}
use Rattle.dw_base.specs.declared.leb128.LebFault.{LebFault}
use Rattle.dw_base.specs.declared.leb128.LebFault.TheVariants.{TooWide}
use Rattle.dw_base.proofs.Adding.{pow_seven, high_power}

pub does_fit : (v r : ℤ) (end : ℕ) → r ≡ v → FitsSigned w64 v → ◌≡◌ {A = Result (ℤ × ℕ) LebFault}
    (Ok (r, end)) (if fits_i64 v then Ok (v, end) else Err TooWide)
does_fit (pos n) r end e f = let t : nat_lt n (2 ^ 63) ≡ true =
    lt-ltb n (2 ^ 63) (omega (arith, ints)) in rw (t, e) refl
does_fit (negsuc n) r end e f = let t : nat_lt n (2 ^ 63) ≡ true =
    lt-ltb n (2 ^ 63) (omega (arith, ints)) in rw (t, e) refl

pub below_zero : (a b : ℕ) → a < b → pos a -ℤ pos b ≡ negsuc (b - suc a)
below_zero a b h = omega (arith, ints)

-- low digits alone
pub low_total : (s : Sum) (n total : ℕ) → s.shift ≤ 63 → Sums s n total
    → (total ≡ s.low) × (128 ^ n ≡ 2 ^ s.shift)
low_total s n total le h =
    let at : s.shift ≡ 7 * n = h.count le in
    let z : n - 9 ≡ 0 = omega arith in
    let few : h.high < 128 ^ 0 = rw z at h.few in
    (omega (arith, h.is), sym (ap (λ (k : ℕ). 2 ^ k) at ∙ pow_seven n))

pub small_negative : (low s : ℕ) → s < 63 → low < 2 ^ s → (to_z w64 low -ℤ to_z w64
    (1 * 2 ^ s % 2 ^ 64) ≡ pos low -ℤ pos (2 ^ s)) × FitsSigned w64 (pos low -ℤ pos (2 ^ s))
small_negative low s lt h =
    let p : 2 ^ s ≤ 2 ^ 62 =
    pow-le-pow_right {n = 2} (omega arith) {i = s} {j = 62} (omega arith) in
    let a : to_z w64 low ≡ pos low = to_z_pos w64 low (omega arith) in
    let o : 1 * 2 ^ s % 2 ^ 64 ≡ 2 ^ s = one_shl s 64 (omega arith) in
    let b : to_z w64 (1 * 2 ^ s % 2 ^ 64) ≡ pos (2 ^ s) =
    rw o (to_z_pos w64 (2 ^ s) (omega arith)) in
    (rw (a, b) refl, omega (arith, ints))

nine_digits : (s : Sum) (n total : ℕ) → 63 ≤ s.shift → Sums s n total
    → (s.shift ≡ 63) ⊎ (s.shift ≡ 63 → ⊥) → 9 ≤ n
nine_digits s n total far h (inl at) = omega (arith, h.count (omega arith))
nine_digits s n total far h (inr ne) = omega (arith, h.past (omega arith))

pub high_negative : (s : Sum) (n total : ℕ) → 63 ≤ s.shift → s.low < 2 ^ 63 → Sums s n total
    → s.full ≡ true → pos total -ℤ pos (128 ^ n) ≡ pos s.low +ℤ negsuc 9223372036854775807
high_negative s n total far small h full =
    let p : 128 ^ n ≡ 2 ^ 63 * 128 ^ (n - 9) =
    high_power n (nine_digits s n total far h (cases_eq s.shift 63)) in
    let t : h.high + 1 ≡ 128 ^ (n - 9) =
    eqb-true (h.high + 1) (128 ^ (n - 9)) (sym h.full ∙ full) in
    omega (arith, ints, h.is)

pub too_negative : (s : Sum) (n total end : ℕ) → 63 ≤ s.shift → s.low < 2 ^ 63 → Sums s n total
    → s.full ≡ false
    → ◌≡◌ {A = Result (ℤ × ℕ) LebFault} (Err TooWide) (if fits_i64 (pos total -ℤ pos (128 ^ n))
    then Ok (pos total -ℤ pos (128 ^ n), end) else Err TooWide)
too_negative s n total end far small h full =
    let p : 128 ^ n ≡ 2 ^ 63 * 128 ^ (n - 9) =
    high_power n (nine_digits s n total far h (cases_eq s.shift 63)) in
    let few : h.high < 128 ^ (n - 9) = h.few in
    let t : h.high + 1 ≡ 128 ^ (n - 9) → ⊥ =
    eqb-false (h.high + 1) (128 ^ (n - 9)) (sym h.full ∙ full) in
    let v : pos total -ℤ pos (128 ^ n) ≡ negsuc (128 ^ n - suc total) =
    below_zero total (128 ^ n) (omega (arith, h.is)) in
    let f : nat_lt (128 ^ n - suc total) (2 ^ 63) ≡ false =
    le-ltb (128 ^ n - suc total) (2 ^ 63) (omega (arith, h.is)) in
    rw (v, f) refl

pub zero_high : (s : Sum) (n total : ℕ) → Sums s n total → s.zeros ≡ true → total ≡ s.low
zero_high s n total h z = omega (arith, h.is, eqb-true h.high 0 (sym h.zeros ∙ z))

pub too_large : (s : Sum) (n total end : ℕ) → Sums s n total → s.zeros ≡ false
    → ◌≡◌ {A = Result (ℤ × ℕ) LebFault} (Err TooWide)
    (if fits_i64 (pos total) then Ok (pos total, end) else Err TooWide)
too_large s n total end h z =
    let t : h.high ≡ 0 → ⊥ = eqb-false h.high 0 (sym h.zeros ∙ z) in
    let f : nat_lt total (2 ^ 63) ≡ false = le-ltb total (2 ^ 63) (omega (arith, h.is)) in
    rw f refl
