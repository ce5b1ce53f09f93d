-- First nodes of classes, and the places of classes in a table.
use Rattle.std.proofs.Common.{◌≡◌, ◌<◌, ◌≤◌, ◌+◌, ◌-◌, ℕ, suc, zero, Bool, true, false, cond, List}
use Rattle.std.proofs.Common.{◌∷◌, length, get_or, refl, sym, ◌∙◌, ap, arith, eqb, ltb, ⊎_elim, ◌⊎◌}
use Rattle.std.proofs.Common.{inl, inr}
use Rattle.std.specs.List.{position_or_len, filter, range_with_len}
use Rattle.std.proofs.lemmas.Bool.{eq-eqb, eqb-true, ne_eqb, true≢false, cases_lt, cases_order}
use Rattle.std.proofs.lemmas.Bool.{lt-ltb, le-ltb}
use Rattle.std.proofs.lemmas.List.Sums.{fails_before_first, passes_at_first}
use Rattle.c_model.specs.Graph.{Shape}
use Rattle.split_base.specs.Table.{first_of, own_firsts, place_of}

pub first_of-le : (p : List ℕ) (x : ℕ) → first_of p x ≤ x
first_of-le p x = ⊎_elim (λ h. absurd (true≢false (sym (eq-eqb (get_or p x 0) (get_or p x 0) refl)
    ∙ fails_before_first (λ c. eqb c (get_or p x 0)) p x 0 h))) (λ h. h) (cases_lt x (first_of p x))

pub first_of-below : (p : List ℕ) (x : ℕ) → x < length p → first_of p x < length p
first_of-below p x h = omega (arith, first_of-le p x)

-- the first node of a class is of it
pub first_of-class : (p : List ℕ) (x : ℕ) → x < length p → get_or p (first_of p x) 0 ≡ get_or p x 0
first_of-class p x h =
    eqb-true _ _ (passes_at_first (λ c. eqb c (get_or p x 0)) p 0 (first_of-below p x h))

-- nodes of one class have one first node
pub first_of-same : (p : List ℕ) (x y : ℕ) → get_or p x 0 ≡ get_or p y 0
    → first_of p x ≡ first_of p y
first_of-same p x y e = ap (λ v. position_or_len (λ c. eqb c v) p) e

pub first_of-first_of : (p : List ℕ) (x : ℕ) → x < length p
    → first_of p (first_of p x) ≡ first_of p x
first_of-first_of p x h = first_of-same p (first_of p x) x (first_of-class p x h)

-- and nodes with one first node are of one class
pub first_of-apart : (p : List ℕ) (x y : ℕ) → x < length p → y < length p
    → first_of p x ≡ first_of p y → get_or p x 0 ≡ get_or p y 0
first_of-apart p x y hx hy e =
    sym (first_of-class p x hx) ∙ (ap (λ k. get_or p k 0) e ∙ first_of-class p y hy)

-- a number of a range that passes a test stands in the filtered range
pub filtered : (test : ℕ → Bool) (a n y : ℕ) → a ≤ y → y < a + n → test y ≡ true → position_or_len
    (λ z. eqb z y) (filter test (range_with_len a n)) < length (filter test (range_with_len a n))
filtered test a zero y h k e = absurd (omega arith)
filtered test a (suc n) y h k e =
    by (test a) refl (cases_order a y) (λ l. filtered test (a + 1) n y l (omega arith) e)
  where
    rest : List ℕ
    rest = filter test (range_with_len (a + 1) n)

    Later : Type 0
    Later = a + 1 ≤ y → position_or_len (λ z. eqb z y) rest < length rest

    kept : (a ≡ y) ⊎ ((a < y) ⊎ (y < a)) → Later
        → position_or_len (λ z. eqb z y) (a ∷ rest) < length (a ∷ rest)
    kept (inl s) later = rw (eq-eqb a y s) (omega arith)
    kept (inr (inl l)) later =
        rw (ne_eqb a y (λ s. omega arith)) (omega (arith, later (omega arith)))
    kept (inr (inr l)) later = absurd (omega arith)

    passed : test a ≡ false → (a ≡ y) ⊎ ((a < y) ⊎ (y < a)) → Later
        → position_or_len (λ z. eqb z y) rest < length rest
    passed f (inl s) later = absurd (true≢false (sym e ∙ (ap test (sym s) ∙ f)))
    passed f (inr (inl l)) later = later (omega arith)
    passed f (inr (inr l)) later = absurd (omega arith)

    by : (b : Bool) → test a ≡ b → (a ≡ y) ⊎ ((a < y) ⊎ (y < a)) → Later
        → position_or_len (λ z. eqb z y) (filter test (range_with_len a (suc n)))
        < length (filter test (range_with_len a (suc n)))
    by true t o later = rw t (kept o later)
    by false t o later = rw t (passed t o later)

module _ (g : Shape) (p : List ℕ) (covers : length p ≡ length g.nodes) where
  -- an own class has its first node among the own first nodes
  pub own_place : (x : ℕ) → x < length g.nodes → g.base ≤ first_of p x
      → position_or_len (λ y. eqb y (first_of p x)) (own_firsts g p) < length (own_firsts g p)
  own_place x h b = filtered (λ y. eqb (first_of p y) y) g.base (length g.nodes - g.base)
      (first_of p x) b (omega (arith, first_of-below p x (omega (arith, covers)), covers)) (eq-eqb
      (first_of p (first_of p x)) (first_of p x) (first_of-first_of p x (omega (arith, covers))))

  -- a class with base nodes has the place of its first
  pub base_place : (x : ℕ) → first_of p x < g.base → place_of g p x ≡ first_of p x
  base_place x l = rw (lt-ltb (first_of p x) g.base l) refl

  pub own_place_is : (x : ℕ) → g.base ≤ first_of p x
      → place_of g p x ≡ g.base + position_or_len (λ y. eqb y (first_of p x)) (own_firsts g p)
  own_place_is x l = rw (le-ltb (first_of p x) g.base l) refl

  -- places tell classes apart
  pub place_of-apart : (x y : ℕ) → x < length g.nodes → y < length g.nodes
      → place_of g p x ≡ place_of g p y → get_or p x 0 ≡ get_or p y 0
  place_of-apart x y hx hy e = first_of-apart p x y (omega (arith, covers)) (omega (arith, covers))
      (by (cases_lt (first_of p x) g.base) (cases_lt (first_of p y) g.base))
    where
      at : (z : ℕ) → z < length g.nodes → g.base ≤ first_of p z → get_or (own_firsts g p)
          (position_or_len (λ k. eqb k (first_of p z)) (own_firsts g p)) 0 ≡ first_of p z
      at z hz b = eqb-true _ _
          (passes_at_first (λ k. eqb k (first_of p z)) (own_firsts g p) 0 (own_place z hz b))

      by : (first_of p x < g.base) ⊎ (g.base ≤ first_of p x)
          → (first_of p y < g.base) ⊎ (g.base ≤ first_of p y) → first_of p x ≡ first_of p y
      by (inl bx) (inl by') = sym (base_place x bx) ∙ (e ∙ base_place y by')
      by (inl bx) (inr oy) = absurd (omega (arith, base_place x bx, own_place_is y oy, e))
      by (inr ox) (inl by') = absurd (omega (arith, own_place_is x ox, base_place y by', e))
      by (inr ox) (inr oy) =
          let same : position_or_len (λ k. eqb k (first_of p x)) (own_firsts g p)
          ≡ position_or_len (λ k. eqb k (first_of p y)) (own_firsts g p) =
          omega (arith, own_place_is x ox, own_place_is y oy, e) in
          sym (at x hx ox) ∙ (ap (λ k. get_or (own_firsts g p) k 0) same ∙ at y hy oy)

  pub place_of-same : (x y : ℕ) → get_or p x 0 ≡ get_or p y 0 → place_of g p x ≡ place_of g p y
  place_of-same x y e = ap (λ f. cond (ltb f g.base) f
      (g.base + position_or_len (λ k. eqb k f) (own_firsts g p))) (first_of-same p x y e)
