-- What is kept of the lengths says whether they are refused, and how many elements there are.
use Rattle.std.proofs.Common.{◌≡◌, ℕ, ◌*◌, ◌<◌, ◌≤◌, ◌⊎◌, ◌^◌, ◌==◌, min, nat_lt, ◌||◌, not, Bool}
use Rattle.std.proofs.Common.{true, false, List, [], ◌∷◌, map, Option, if◌then◌else◌, refl, sym, ap}
use Rattle.std.proofs.Common.{◌∙◌, arith, inl, inr}
use Rattle.std.proofs.lemmas.Bool.{cases_lt, le-ltb, ltb-true}
use Rattle.std.proofs.lemmas.Nat.{mul-le}
use Rattle.entry_tree.specs.Items.{Given}
use Rattle.dw_base.proofs.Bools.{or_assoc}
use Rattle.c_types.specs.declared.arrays.Lengths.{Lengths}
use Rattle.type_attributes.specs.Children.{tagged}
use Rattle.c_types.specs.Taking.{made_if}
use Rattle.c_types.specs.Arrays.{subrange_length, is_long, some_long, or_zero, product_of}
use Rattle.c_types.specs.Arrays.{lengths_of, is_refused, elements_in}
use Rattle.c_types.specs.Lengths.{start, extended, is_too_long, elements_from}
use Rattle.dwarf_abbrev.specs.declared.constants.TheConstants.{DW_TAG_subrange_type}

-- a product that stops at 2^32, times more
over : (a r : ℕ) → (r < 1) ⊎ (1 ≤ r) → 2 ^ 32 ≤ a → min (2 ^ 32 * r) (2 ^ 32) ≡ min (a * r) (2 ^ 32)
over a r (inl none) h = let z : r ≡ 0 = omega arith in let y : a * 0 ≡ 0 = omega arith in
    rw (z, y) refl
over a r (inr some) h =
    let p : 2 ^ 32 * 1 ≤ 2 ^ 32 * r = mul-le (2 ^ 32) 1 (2 ^ 32) r (omega arith) some in
    let q : 2 ^ 32 * r ≤ a * r = mul-le (2 ^ 32) r a r h (omega arith) in
    omega arith

stops : (a r : ℕ) → (a < 2 ^ 32) ⊎ (2 ^ 32 ≤ a)
    → min (min a (2 ^ 32) * r) (2 ^ 32) ≡ min (a * r) (2 ^ 32)
stops a r (inl lt) = let e : min a (2 ^ 32) ≡ a = omega arith in rw e refl
stops a r (inr le) = let e : min a (2 ^ 32) ≡ 2 ^ 32 = omega arith in
    rw e (over a r (cases_lt r 1) le)

pub stopped : (a r : ℕ) → min (min a (2 ^ 32) * r) (2 ^ 32) ≡ min (a * r) (2 ^ 32)
stopped a r = stops a r (cases_lt a (2 ^ 32))

-- one more
abbrev one : Lengths → Option ℕ → Lengths
one l o = record {
  product = min (l.product * or_zero o) (2 ^ 32);
  any = true;
  long = l.long || is_long o;
}

long_is : (l : Lengths) (os : List (Option ℕ)) → (extended l os).long ≡ (l.long || some_long os)
long_is l [] = or_false l.long
  where
    or_false : (a : Bool) → a ≡ (a || false)
    or_false true = refl
    or_false false = refl
long_is l (o ∷ os) = long_is (one l o) os ∙ sym (or_assoc l.long (is_long o) (some_long os))

any_is : (l : Lengths) (os : List (Option ℕ)) → l.any ≡ true → (extended l os).any ≡ true
any_is l [] h = h
any_is l (o ∷ os) h = any_is (one l o) os refl

product_is : (l : Lengths) (os : List (Option ℕ)) → l.product ≤ 2 ^ 32
    → (extended l os).product ≡ min (l.product * product_of os) (2 ^ 32)
product_is l [] h = omega arith
product_is l (o ∷ os) h =
    product_is (one l o) os (omega arith) ∙ stopped (l.product * or_zero o) (product_of os)
    ∙ ap (λ (n : ℕ). min n (2 ^ 32)) (assoc l.product (or_zero o) (product_of os))
  where
    assoc : (a b c : ℕ) → a * b * c ≡ a * (b * c)
    assoc a b c = grind arith

lt_capped : (p : ℕ) → (p < 2 ^ 32) ⊎ (2 ^ 32 ≤ p)
    → nat_lt (min p (2 ^ 32)) (2 ^ 32) ≡ nat_lt p (2 ^ 32)
lt_capped p (inl lt) = let e : min p (2 ^ 32) ≡ p = omega arith in rw e refl
lt_capped p (inr le) = let e : min p (2 ^ 32) ≡ 2 ^ 32 = omega arith in
    rw (e, le-ltb p (2 ^ 32) le) refl

fits : (p : ℕ) → nat_lt p (2 ^ 32) ≡ true → min (1 * p) (2 ^ 32) ≡ p
fits p t = omega (arith, ltb-true p (2 ^ 32) t)

not_true : (b : Bool) → not b ≡ false → b ≡ true
not_true true e = refl
not_true false e = cc

small : (p : ℕ) (s : Bool) → (s || not (nat_lt p (2 ^ 32))) ≡ false → min (1 * p) (2 ^ 32) ≡ p
small p true e = cc
small p false e = fits p (not_true (nat_lt p (2 ^ 32)) e)

pub refused_is : (os : List (Option ℕ)) → is_too_long (extended start os) ≡ is_refused os
refused_is [] = refl
refused_is (o ∷ os) =
    let l = extended start (o ∷ os) in
    let a : l.long ≡ some_long (o ∷ os) = long_is start (o ∷ os) in
    let b : l.any ≡ true = any_is (one start o) os refl in
    let c : l.product ≡ min (1 * product_of (o ∷ os)) (2 ^ 32) =
    product_is start (o ∷ os) (omega arith) in
    let d : min (1 * product_of (o ∷ os)) (2 ^ 32) ≡ min (product_of (o ∷ os)) (2 ^ 32) =
    omega arith in
    rw (a, b, c, d, lt_capped (product_of (o ∷ os)) (cases_lt (product_of (o ∷ os)) (2 ^ 32))) refl

pub elements_are : (os : List (Option ℕ)) → elements_from (extended start os) ≡ elements_in os
elements_are [] = refl
elements_are (o ∷ os) = by (is_refused (o ∷ os)) refl
  where
    by : (t : Bool) → is_refused (o ∷ os) ≡ t
        → elements_from (extended start (o ∷ os)) ≡ elements_in (o ∷ os)
    by true t = rw (refused_is (o ∷ os), t) refl
    by false t =
        let b : (extended start (o ∷ os)).any ≡ true = any_is (one start o) os refl in
        let c : (extended start (o ∷ os)).product ≡ min (1 * product_of (o ∷ os)) (2 ^ 32) =
        product_is start (o ∷ os) (omega arith) in
        rw (refused_is (o ∷ os), t, b) (c ∙ small (product_of (o ∷ os)) (some_long (o ∷ os)) t)

-- the children one by one
extend_one : (l : Lengths) (e : Given) (es : List Given) (t : Bool)
    → extended l (map subrange_length (if t then e ∷ es else es))
    ≡ extended (extended l (if t then subrange_length e ∷ [] else [])) (map subrange_length es)
extend_one l e es true = refl
extend_one l e es false = refl

pub extends : (l more all : Lengths) (old new : List Given) (e : Given) → old ≡ e ∷ new
    → more ≡ extended l (made_if DW_TAG_subrange_type subrange_length e)
    → extended l (lengths_of old) ≡ all
    → extended more (lengths_of new) ≡ all
extends l more all old new e took made h =
    ap (λ (m : Lengths). extended m (lengths_of new)) made
    ∙ sym (extend_one l e (tagged DW_TAG_subrange_type new)
    (e.tag == DW_TAG_subrange_type))
    ∙ sym (ap (λ (ks : List Given). extended l (lengths_of ks)) took) ∙ h
