-- Adding a digit to a sum of digits.
use Rattle.std.proofs.Common.{◌≡◌, ℕ, zero, suc, ◌+◌, ◌-◌, ◌*◌, ◌%◌, ◌^◌, ◌<◌, ◌≤◌, ◌==◌, ◌⊎◌, ◌&&◌}
use Rattle.std.proofs.Common.{Bool, true, false, if◌then◌else◌, refl, sym, ap, ◌∙◌, arith, inl, inr}
use Rattle.std.proofs.Common.{add-one}
use Rattle.std.proofs.Math.Nat.{pow-suc, pow-le-pow_right}
use Rattle.std.proofs.lemmas.Nat.{pow-add, mul-le, pow_pos, shl_whole}
use Rattle.std.proofs.lemmas.Bool.{cases_eq, eq-eqb, ne_eqb, eqb-true, eqb-false, and_right}
use Rattle.dw_base.specs.Sums.{Sums, IsEven}
use Rattle.dw_base.specs.declared.leb128.Sum.{Sum}

and_true : (b : Bool) → (b && true) ≡ b
and_true true = refl
and_true false = refl

same : (a b : Bool) → (a ≡ true → b ≡ true) → (a ≡ false → b ≡ false) → a ≡ b
same true b f g = sym (f refl)
same false b f g = sym (g refl)

pub pow_seven : (n : ℕ) → 2 ^ (7 * n) ≡ 128 ^ n
pow_seven zero = refl
pow_seven (suc n) = let e : 7 * suc n ≡ 7 * n + 7 = omega arith in
    rw e (pow-add 2 (7 * n) 7 ∙ ap (λ (p : ℕ). p * 128) (pow_seven n) ∙ sym (pow-suc 128 n))

pub pow_128_suc : (n : ℕ) → 128 ^ (n + 1) ≡ 128 ^ n * 128
pow_128_suc n = rw add-one (pow-suc 128 n)

pub pow_some : (n : ℕ) → 0 < 128 ^ n
pow_some n = rw (← pow_seven n) (pow_pos (7 * n))

pub shifted : (d s : ℕ) → d < 128 → s ≤ 56 → (d * 2 ^ s) % 2 ^ 64 ≡ d * 2 ^ s
shifted d s small few = shl_whole d 7 s 64 small (omega arith)

pub shifted_fits : (low d s : ℕ) → d < 128 → s ≤ 56 → low < 2 ^ s → low + d * 2 ^ s < 2 ^ (s + 7)
shifted_fits low d s small few h =
    rw (pow-add 2 s 7) (omega (arith, mul-le d (2 ^ s) 127 (2 ^ s) (omega arith) (omega arith)))

pub below_top : (s : ℕ) → s ≤ 56 → 2 ^ (s + 7) ≤ 2 ^ 63
below_top s few = pow-le-pow_right {n = 2} (omega arith) {i = s + 7} {j = 63} (omega arith)

pub even_step : (low d s : ℕ) → d < 128 → s < 63 → IsEven low s → IsEven (low + d * 2 ^ s) (s + 7)
even_step low d s small few e =
    let le : s ≤ 56 = omega (arith, e.steps) in
    let a : low + d * 2 ^ s < 2 ^ (s + 7) = shifted_fits low d s small le (e.below (omega arith)) in
    let b : 2 ^ (s + 7) ≤ 2 ^ 63 = below_top s le in
    record { fits = omega arith; below = λ _. a; steps = omega (arith, e.steps); top = omega arith }

more_and : (z : Bool) (h d p : ℕ) → 0 < p → z ≡ (h == 0) → (d ≡ 0) ⊎ (d ≡ 0 → ⊥)
    → (z && (d == 0)) ≡ (h + d * p == 0)
more_and z h d p some e (inl n) = let a : (d == 0) ≡ true = eq-eqb d 0 n in let b : h + d * p ≡ h =
    rw n (omega arith) in rw (a, b) (and_true z ∙ e)
more_and z h d p some e (inr n) =
    let a : (d == 0) ≡ false = ne_eqb d 0 n in
    let l : 1 * 1 ≤ d * p = mul-le 1 1 d p (omega arith) (omega arith) in
    let b : (h + d * p == 0) ≡ false = ne_eqb (h + d * p) 0 (omega arith) in
    rw (a, b) (and_right z false refl)

pub step_zeros : (z : Bool) (h d p : ℕ) → 0 < p → z ≡ (h == 0) → (z && (d == 0)) ≡ (h + d * p == 0)
step_zeros z h d p some e = more_and z h d p some e (cases_eq d 0)

-- past the first digit of the high part
more_one : (o : Bool) (h d p : ℕ) → 1 < p → o ≡ (h == 1) → (d ≡ 0) ⊎ (d ≡ 0 → ⊥)
    → (o && (d == 0)) ≡ (h + d * p == 1)
more_one o h d p some e (inl n) = let a : (d == 0) ≡ true = eq-eqb d 0 n in let b : h + d * p ≡ h =
    rw n (omega arith) in rw (a, b) (and_true o ∙ e)
more_one o h d p some e (inr n) =
    let a : (d == 0) ≡ false = ne_eqb d 0 n in
    let l : 1 * 2 ≤ d * p = mul-le 1 2 d p (omega arith) (omega arith) in
    let b : (h + d * p == 1) ≡ false = ne_eqb (h + d * p) 1 (omega arith) in
    rw (a, b) (and_right o false refl)

pub step_one : (o : Bool) (h d p : ℕ) → 1 < p → o ≡ (h == 1) → (o && (d == 0)) ≡ (h + d * p == 1)
step_one o h d p some e = more_one o h d p some e (cases_eq d 0)

all_full : (f : Bool) (h d p : ℕ) → d < 128 → h < p → f ≡ (h + 1 == p) → (d ≡ 127) ⊎ (d ≡ 127 → ⊥)
    → (f && (d == 127)) ≡ (h + d * p + 1 == p * 128)
all_full f h d p small few e (inl n) =
    let a : (d == 127) ≡ true = eq-eqb d 127 n in
    let b : d * p ≡ 127 * p = ap (λ (x : ℕ). x * p) n in
    rw a (and_true f ∙ e ∙ same (h + 1 == p) (h + d * p + 1 == p * 128) (λ t. eq-eqb (h + d * p
    + 1) (p * 128) (omega (arith, eqb-true (h + 1) p t))) (λ t. ne_eqb (h + d * p + 1) (p * 128)
    (λ (q : h + d * p + 1 ≡ p * 128). eqb-false (h + 1) p t (omega arith))))
all_full f h d p small few e (inr n) =
    let a : (d == 127) ≡ false = ne_eqb d 127 n in
    let l : d * p ≤ 126 * p = mul-le d p 126 p (omega arith) (omega arith) in
    let b : (h + d * p + 1 == p * 128) ≡ false = ne_eqb (h + d * p + 1) (p * 128) (omega arith) in
    rw (a, b) (and_right f false refl)

pub step_full : (f : Bool) (h d p : ℕ) → d < 128 → h < p → f ≡ (h + 1 == p)
    → (f && (d == 127)) ≡ (h + d * p + 1 == p * 128)
step_full f h d p small few e = all_full f h d p small few e (cases_eq d 127)

-- the digits from the ninth on are by 2^63
pub high_power : (n : ℕ) → 9 ≤ n → 128 ^ n ≡ 2 ^ 63 * 128 ^ (n - 9)
high_power n h = let e : n ≡ (n - 9) + 9 = omega arith in let f : 128 ^ n ≡ 128 ^ ((n - 9) + 9) =
    ap (λ (k : ℕ). 128 ^ k) e in f ∙ pow-add 128 (n - 9) 9 ∙ (omega arith)

pub low_sums : (s : Sum) (d n total : ℕ) → d < 128 → s.shift < 63 → IsEven s.low s.shift
    → Sums s n total
    → Sums (record {
      low = s.low + d * 2 ^ s.shift;
      shift = s.shift + 7;
      zeros = s.zeros;
      one = s.one;
      full = s.full;
    }) (n + 1) (total + d * 128 ^ n)
low_sums s d n total small few e h =
    let at : s.shift ≡ 7 * n = h.count (omega arith) in
    let p : 2 ^ s.shift ≡ 128 ^ n = ap (λ (k : ℕ). 2 ^ k) at ∙ pow_seven n in
    let q : d * 2 ^ s.shift ≡ d * 128 ^ n = ap (λ (k : ℕ). d * k) p in
    let z : n - 9 ≡ 0 = omega arith in
    let z' : n + 1 - 9 ≡ 0 = omega arith in
    let few' : h.high < 128 ^ 0 = rw z at h.few in
    let full' : s.full ≡ (h.high + 1 == 128 ^ 0) = rw z at h.full in
    record {
      high = h.high;
      is = omega (arith, h.is);
      few = rw z' few';
      count = λ _. omega arith;
      past = λ (far : 63 < s.shift + 7). absurd (omega (arith, e.steps));
      zeros = h.zeros;
      one = h.one;
      full = rw z' full';
    }

-- what the first digit of the high part is, or a later one
one_step : (s : Sum) (d n total : ℕ) (o : Bool) → d < 128 → 63 ≤ s.shift → Sums s n total
    → o ≡ (if s.shift == 63 then d == 1 else s.one && d == 0) → (h : Sums s n total)
    → (s.shift ≡ 63) ⊎ (s.shift ≡ 63 → ⊥)
    → o ≡ (h.high + d * 128 ^ (n - 9) == 1)
one_step s d n total o small far h is g (inl at) =
    let nine : n ≡ 9 = omega (arith, g.count (omega arith)) in
    let z : n - 9 ≡ 0 = omega arith in
    let few : g.high < 128 ^ 0 = rw z at g.few in
    let none : g.high ≡ 0 = omega arith in
    let t : (s.shift == 63) ≡ true = eq-eqb s.shift 63 at in
    let o' : o ≡ (d == 1) = rw t at is in
    let x : g.high + d * 128 ^ (n - 9) ≡ d = rw z (omega arith) in
    rw x o'
one_step s d n total o small far h is g (inr ne) =
    let ten : 10 ≤ n = g.past (omega arith) in
    let t : (s.shift == 63) ≡ false = ne_eqb s.shift 63 ne in
    let o' : o ≡ (s.one && d == 0) = rw t at is in
    o' ∙ step_one s.one g.high d (128 ^ (n - 9)) (many n ten) g.one
  where
    many : (n : ℕ) → 10 ≤ n → 1 < 128 ^ (n - 9)
    many n ten = let le : 128 ^ 1 ≤ 128 ^ (n - 9) =
        pow-le-pow_right {n = 128} (omega arith) {i = 1} {j = n - 9} (omega arith) in omega arith

pub high_sums : (s : Sum) (d n total : ℕ) (z o f : Bool) → d < 128 → 63 ≤ s.shift
    → IsEven s.low s.shift → z ≡ (s.zeros && d == 0) → o ≡ (if s.shift == 63 then d == 1
    else s.one && d == 0) → f ≡ (s.full && d == 127) → Sums s n total
    → Sums (record { low = s.low; shift = 70; zeros = z; one = o; full = f }) (n + 1)
    (total + d * 128 ^ n)
high_sums s d n total z o f small far e zeros one full h =
    let nine : 9 ≤ n = nine_digits (cases_eq s.shift 63) in
    let k = n - 9 in
    let p = 128 ^ k in
    let up : 128 ^ n ≡ 2 ^ 63 * 128 ^ (n - 9) = high_power n nine in
    let m : n + 1 - 9 ≡ (n - 9) + 1 = omega arith in
    let more : 128 ^ (n + 1 - 9) ≡ 128 ^ (n - 9) * 128 =
    ap (λ (k : ℕ). 128 ^ k) m ∙ pow_128_suc (n - 9) in
    let q : d * 128 ^ n ≡ 2 ^ 63 * (d * 128 ^ (n - 9)) = ap (λ (x : ℕ). d * x) up ∙ omega arith in
    let l : d * 128 ^ (n - 9) ≤ 127 * 128 ^ (n - 9) =
    mul-le d (128 ^ (n - 9)) 127 (128 ^ (n - 9)) (omega arith) (omega arith) in
    let few : h.high < 128 ^ (n - 9) = h.few in
    let pos : 0 < 128 ^ (n - 9) = pow_some (n - 9) in
    record {
      high = h.high + d * 128 ^ (n - 9);
      is = omega (arith, h.is);
      few = rw more (omega arith);
      count = λ (no : 70 ≤ 63). absurd (omega arith);
      past = λ _. omega arith;
      zeros = zeros ∙ step_zeros s.zeros h.high d (128 ^ (n - 9)) pos h.zeros;
      one = one_step s d n total o small far h one h (cases_eq s.shift 63);
      full = full ∙ step_full s.full h.high d (128 ^ (n - 9)) small few h.full
          ∙ ap (λ (x : ℕ). h.high + d * 128 ^ (n - 9) + 1 == x) (sym more);
    }
  where
    nine_digits : (s.shift ≡ 63) ⊎ (s.shift ≡ 63 → ⊥) → 9 ≤ n
    nine_digits (inl at) = omega (arith, h.count (omega arith))
    nine_digits (inr ne) = omega (arith, h.past (omega arith))
