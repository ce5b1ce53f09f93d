-- The least number that passes a test.
use Rattle.std.proofs.Common.{◌≡◌, ℕ, zero, suc, ◌+◌, ◌<◌, ◌≤◌, Bool, true, false, Option, None}
use Rattle.std.proofs.Common.{Some, if◌then◌else◌, refl, sym, ap, ◌∙◌, arith}
use Rattle.std.specs.Option.{option_or}
use Rattle.dw_base.proofs.Options.{or_none}
use Rattle.btf_strings.specs.Names.{least_below}

-- numbers that fail add nothing
pub least_none : (test : ℕ → Bool) (at n : ℕ) → ((k : ℕ) → at ≤ k → k < at + n → test k ≡ false)
    → least_below test (at + n) ≡ least_below test at
unfolding least_below
least_none test at zero fails = let e : at + 0 ≡ at = omega arith in rw e refl
least_none test at (suc n) fails =
    let e : at + suc n ≡ suc (at + n) = omega arith in
    let f : test (at + n) ≡ false = fails (at + n) (omega arith) (omega arith) in
    let r : least_below test (at + n) ≡ least_below test at = least_none test at n
    (λ (k : ℕ) (low : at ≤ k) (high : k < at + n). fails k low (omega arith)) in
    rw (e, f, r) (or_none (least_below test at))

-- one number, and then numbers that fail
pub least_step : (test : ℕ → Bool) (at n : ℕ) → ((k : ℕ) → at < k → k ≤ at + n → test k ≡ false)
    → least_below test (at + (n + 1))
    ≡ option_or (least_below test at) (if test at then Some at else None)
unfolding least_below
least_step test at n fails =
    let e : at + (n + 1) ≡ suc at + n = omega arith in
    ap (λ (m : ℕ). least_below test m) e ∙ least_none test (suc at) n
    (λ (k : ℕ) (low : suc at ≤ k) (high : k < suc at + n). fails k (omega arith) (omega arith))

-- what is found passes, and lies below the bound
last : (test : ℕ → Bool) (n k : ℕ) (found : Option ℕ) (t : Bool)
    → ((j : ℕ) → found ≡ Some j → (test j ≡ true) × (j < n)) → test n ≡ t
    → option_or found (if t then Some n else None) ≡ Some k → (test k ≡ true) × (k < n + 1)
last test n k (Some j) t before e is =
    let q : j ≡ k = cc in
    let h = before j refl in
    (ap test (sym q) ∙ h.0, omega (arith, h.1))
last test n k None true before e is =
    let q : n ≡ k = cc in
    (ap test (sym q) ∙ e, omega arith)
last test n k None false before e is = cc

pub least_passes : (test : ℕ → Bool) (n k : ℕ) → least_below test n ≡ Some k
    → (test k ≡ true) × (k < n)
unfolding least_below
least_passes test zero k e = cc
least_passes test (suc n) k e =
    let h = last test n k (least_below test n) (test n)
    (λ (j : ℕ) (f : least_below test n ≡ Some j). least_passes test n j f) refl e in
    (h.0, omega (arith, h.1))
