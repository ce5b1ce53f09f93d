-- Classes get their places node by node.
use Rattle.std.proofs.Common.{◌≡◌, ◌≢◌, ◌<◌, ◌≤◌, ◌+◌, ◌-◌, ℕ, suc, zero, Bool, cond, List, [], ◌∷◌}
use Rattle.std.proofs.Common.{◌++◌, Option, None, Some, length, get_or, refl, sym, ◌∙◌, ap, arith}
use Rattle.std.proofs.Common.{eqb, ltb, ⊎_elim, ◌⊎◌, inl, inr}
use Rattle.std.specs.List.{filter, position_or_len, range_with_len}
use Rattle.std.proofs.lemmas.Bool.{cases_lt, cases_eq, lt-ltb, le-ltb, eqb-true, eq-eqb, ne_eqb}
use Rattle.std.proofs.lemmas.Bool.{ltb-true}
use Rattle.std.proofs.lemmas.Option.{cond_some}
use Rattle.std.proofs.lemmas.List.{length-append, get_or_append_left, get_or_at, append-nil}
use Rattle.std.proofs.lemmas.List.Elements.{filter-append, All-from_recursion, All-get_or}
use Rattle.std.proofs.lemmas.List.Sums.{passes_at_first, position_or_len_is, length-filter}
use Rattle.std.proofs.lemmas.List.Sums.{count_by-le-length}
use Rattle.std.proofs.lemmas.List.FromFn.{length-range_with_len}
use Rattle.c_model.specs.Graph.{Shape}
use Rattle.split_base.specs.Table.{first_of, own_firsts, place_of}
use Rattle.split_base.specs.Building.{first_with, place_from, firsts_below, IsPlaced, TakesPlace}
use Rattle.split_base.proofs.Firsts.{first_of-le}
use Rattle.split_base.proofs.Tables.{all_kept}

range_split : (a m k : ℕ)
    → range_with_len a (m + k) ≡ range_with_len a m ++ range_with_len (a + m) k
range_split a zero k =
    let e : zero + k ≡ k = omega arith in
    let f : a + zero ≡ a = omega arith in
    ap (range_with_len a) e ∙ ap (λ (b : ℕ). range_with_len b k) (sym f)
range_split a (suc m) k =
    let e : suc m + k ≡ suc (m + k) = omega arith in
    let f : (a + 1) + m ≡ a + suc m = omega arith in
    ap (range_with_len a) e ∙ ap (λ (r : List ℕ). a ∷ r)
    (range_split (a + 1) m k ∙ ap (λ (b : ℕ). range_with_len (a + 1) m ++ range_with_len b k) f)

pub range_push : (a m : ℕ) → range_with_len a (m + 1) ≡ range_with_len a m ++ (a + m) ∷ []
range_push a m = range_split a m 1

-- a node that is not the first of a class comes no nearer to its first
past_same : (f x : ℕ) → f ≢ x → ltb f (x + 1) ≡ ltb f x
past_same f x ne = ⊎_elim
    (λ (l : f < x). lt-ltb f (x + 1) (omega arith) ∙ sym (lt-ltb f x l))
    (λ (l : x ≤ f). le-ltb f (x + 1) (omega (arith, ne)) ∙ sym (le-ltb f x l))
    (cases_lt f x)

number_of_first : (p : List ℕ) (x number : ℕ) → x < length p → first_with p number ≡ x
    → get_or p x 0 ≡ number
number_of_first p x number h e =
    let at : get_or p (first_with p number) 0 ≡ number =
    eqb-true _ _ (passes_at_first (λ (c : ℕ). eqb c number) p 0 (omega arith)) in
    rw e at at

length_kept : (test : ℕ → Bool) (a n : ℕ) → length (filter test (range_with_len a n)) ≤ n
length_kept test a n = omega (
  arith,
  length-filter test (range_with_len a n),
  count_by-le-length test (range_with_len a n),
  length-range_with_len a n,
)

module _ (g : Shape) (p : List ℕ) where
  firsts_before : (x : ℕ) → x < g.base → firsts_below g p (x + 1) ≡ firsts_below g p x
  firsts_before x h =
      let e : (x + 1) - g.base ≡ x - g.base = omega arith in
      ap (λ (n : ℕ). filter (λ (y : ℕ). eqb (first_of p y) y) (range_with_len g.base n)) e

  firsts_next : (x : ℕ) → g.base ≤ x
      → firsts_below g p (x + 1) ≡ firsts_below g p x ++ cond (eqb (first_of p x) x) (x ∷ []) []
  firsts_next x h =
      let e : (x + 1) - g.base ≡ (x - g.base) + 1 = omega arith in
      let f : g.base + (x - g.base) ≡ x = omega arith in
      ap (λ (n : ℕ). filter (λ (y : ℕ). eqb (first_of p y) y) (range_with_len g.base n)) e
      ∙ ap (filter (λ (y : ℕ). eqb (first_of p y) y)) (range_push g.base (x - g.base))
      ∙ filter-append (λ (y : ℕ). eqb (first_of p y) y) (range_with_len g.base (x - g.base))
      ((g.base + (x - g.base)) ∷ [])
      ∙ ap (λ (y : ℕ). firsts_below g p x ++ filter (λ (z : ℕ). eqb (first_of p z) z) (y ∷ [])) f

  firsts_passed : (x : ℕ) → first_of p x ≢ x → firsts_below g p (x + 1) ≡ firsts_below g p x
  firsts_passed x ne = ⊎_elim
      (λ (l : x < g.base). firsts_before x l)
      (λ (l : g.base ≤ x). firsts_next x l ∙ ap (λ (b : Bool). firsts_below g p x
      ++ cond b (x ∷ []) []) (ne_eqb (first_of p x) x ne) ∙ append-nil (firsts_below g p x))
      (cases_lt x g.base)

  firsts_met : (x : ℕ) → g.base ≤ x → first_of p x ≡ x
      → firsts_below g p (x + 1) ≡ firsts_below g p x ++ x ∷ []
  firsts_met x l e = firsts_next x l
      ∙ ap (λ (b : Bool). firsts_below g p x ++ cond b (x ∷ []) []) (eq-eqb (first_of p x) x e)

  below_firsts : (x k : ℕ) → g.base ≤ x → k < length (firsts_below g p x)
      → get_or (firsts_below g p x) k 0 < x
  below_firsts x k l lt =
      All-get_or (λ (y : ℕ). y < x) (firsts_below g p x) k 0 lt
      (All-from_recursion (λ (y : ℕ). y < x) (firsts_below g p x)
      (all_kept (λ (y : ℕ). y < x) (λ (y : ℕ). eqb (first_of p y) y) g.base (x - g.base)
      (λ y a b t. omega arith)))

  -- the own first nodes are those below a node, the node itself where it is one, and later ones
  firsts_around : (x : ℕ) → g.base ≤ x → x < length g.nodes → first_of p x ≡ x
      → (rest : List ℕ) × (own_firsts g p ≡ firsts_below g p x ++ x ∷ rest)
  firsts_around x l h e =
      let test : ℕ → Bool = λ (y : ℕ). eqb (first_of p y) y in
      let m : ℕ = length g.nodes - (x + 1) in
      let n : length g.nodes - g.base ≡ (x - g.base) + suc m = omega arith in
      let f : g.base + (x - g.base) ≡ x = omega arith in (
        filter test (range_with_len (x + 1) m),
        ap (λ (k : ℕ). filter test (range_with_len g.base k)) n
            ∙ ap (filter test) (range_split g.base (x - g.base) (suc m))
            ∙ filter-append test (range_with_len g.base (x - g.base))
            (range_with_len (g.base + (x - g.base)) (suc m))
            ∙ ap (λ (b : ℕ). firsts_below g p x ++ filter test (range_with_len b (suc m))) f
            ∙ ap (λ (b : Bool). firsts_below g p x ++ cond b (x ∷ filter test (range_with_len
            (x + 1) m)) (filter test (range_with_len (x + 1) m))) (eq-eqb (first_of p x) x e),
      )

  place_of_first : (x : ℕ) → g.base ≤ x → x < length g.nodes → first_of p x ≡ x
      → position_or_len (λ (y : ℕ). eqb y x) (own_firsts g p) ≡ length (firsts_below g p x)
  place_of_first x l h e =
      let w = firsts_around x l h e in
      let front : List ℕ = firsts_below g p x in
      ap (position_or_len (λ (y : ℕ). eqb y x)) w.1
      ∙ position_or_len_is (λ (y : ℕ). eqb y x) (front ++ x ∷ w.0) (length front) 0
      (omega (arith, length-append front (x ∷ w.0)))
      (λ (k : ℕ) (lt : k < length front).
      ne_eqb _ x (λ (same : get_or (front ++ x ∷ w.0) k 0 ≡ x). absurd
      (omega (arith, get_or_append_left front (x ∷ w.0) 0 k lt, below_firsts x k l lt, same))))
      (λ lt. eq-eqb _ x (get_or_at front x w.0 0 (length front) refl))

  -- a node of a known class
  pub placed_before : (x : ℕ) (known : ℕ → Option ℕ) (firsts : List ℕ) (place : ℕ) → x < length p
      → IsPlaced g p x known firsts → known (get_or p x 0) ≡ Some place
      → IsPlaced g p (x + 1) known firsts × (place ≡ place_of g p x)
  placed_before x known firsts place h s e =
      let is = cond_some (ltb (first_of p x) x) (place_from g p (first_of p x)) place
      (sym (s.places (get_or p x 0)) ∙ e) in
      let lt : first_of p x < x = ltb-true (first_of p x) x is.0 in (
        record {
          places = λ (number : ℕ).
              s.places number
              ∙ ap (λ (b : Bool). cond b (Some (place_from g p (first_with p number))) None)
              (sym (past_same (first_with p number) x (λ (f : first_with p number ≡ x).
              let same : first_with p number ≡ first_of p x = ap (first_with p)
              (sym (number_of_first p x number h f)) in absurd (omega arith))));
          listed =
              s.listed ∙ sym (firsts_passed x (λ (f : first_of p x ≡ x). absurd (omega arith)));
        },
        sym is.1,
      )

  first_met : (x : ℕ) (known : ℕ → Option ℕ) (firsts : List ℕ) → IsPlaced g p x known firsts
      → known (get_or p x 0) ≡ None → first_of p x ≡ x
  first_met x known firsts s e = ⊎_elim
      (λ (l : first_of p x < x).
      absurd (some_none (ap (λ (b : Bool). cond b (Some (place_from g p (first_of p x))) None)
      (sym (lt-ltb (first_of p x) x l)) ∙ sym (s.places (get_or p x 0)) ∙ e)))
      (λ (l : x ≤ first_of p x). let le : first_of p x ≤ x = first_of-le p x in omega arith)
      (cases_lt (first_of p x) x)
    where
      some_none : {y : ℕ} → ◌≡◌ {A = Option ℕ} (Some y) None → ⊥
      some_none f = cc

  -- what there is room for
  pub room_before : (x : ℕ) (known : ℕ → Option ℕ) (firsts : List ℕ) → IsPlaced g p x known firsts
      → g.base ≤ x → g.base + length firsts ≤ x
  room_before x known firsts s l = let e = ap length s.listed in omega (arith, few x l)
    where
      few : (y : ℕ) → g.base ≤ y → length (firsts_below g p y) ≤ y - g.base
      few y h = omega (arith, length_kept (λ (z : ℕ). eqb (first_of p z) z) g.base (y - g.base))

  -- a node of a new class
  pub placed_first : (x : ℕ) (known more : ℕ → Option ℕ) (firsts new : List ℕ) (place : ℕ) → x
      < length p → x < length g.nodes → IsPlaced g p x known firsts → known (get_or p x 0) ≡ None
      → TakesPlace g.base x firsts new place → ((number : ℕ)
      → more number ≡ cond (eqb (get_or p x 0) number) (Some place) (known number))
      → IsPlaced g p (x + 1) more new × (place ≡ place_of g p x)
  placed_first x known more firsts new place h hn s e takes put =
      let first : first_of p x ≡ x = first_met x known firsts s e in
      let at : place ≡ place_from g p x = place_is (cases_lt x g.base) first in (
        record {
          places = λ (number : ℕ). put number ∙ each number
              (cases_eq (get_or p x 0) number) first at;
          listed = listed (cases_lt x g.base) first;
        },
        at ∙ ap (place_from g p) (sym first),
      )
    where
      place_is : (x < g.base) ⊎ (g.base ≤ x) → first_of p x ≡ x → place ≡ place_from g p x
      place_is (inl l) f = takes.0 ∙ ap (λ (b : Bool). cond b x (g.base + length firsts))
          (lt-ltb x g.base l) ∙ sym (ap (λ (b : Bool). cond b x
          (g.base + position_or_len (λ (y : ℕ). eqb y x) (own_firsts g p))) (lt-ltb x g.base l))
      place_is (inr l) f =
          takes.0 ∙ ap (λ (b : Bool). cond b x (g.base + length firsts)) (le-ltb x g.base l)
          ∙ ap (λ (n : ℕ). g.base + n) (ap length s.listed ∙ sym (place_of_first x l hn f))
          ∙ sym (ap (λ (b : Bool). cond b x
          (g.base + position_or_len (λ (y : ℕ). eqb y x) (own_firsts g p))) (le-ltb x g.base l))

      listed : (x < g.base) ⊎ (g.base ≤ x) → first_of p x ≡ x → new ≡ firsts_below g p (x + 1)
      listed (inl l) f = takes.1 ∙ ap (λ (b : Bool). cond b firsts (firsts ++ x ∷ []))
          (lt-ltb x g.base l) ∙ s.listed ∙ sym (firsts_before x l)
      listed (inr l) f = takes.1 ∙ ap (λ (b : Bool). cond b firsts (firsts ++ x ∷ []))
          (le-ltb x g.base l) ∙ ap (λ (fs : List ℕ). fs ++ x ∷ []) s.listed ∙ sym (firsts_met x l f)

      each : (number : ℕ) → (get_or p x 0 ≡ number) ⊎ (get_or p x 0 ≡ number → ⊥) → first_of p x ≡ x
          → place ≡ place_from g p x
          → cond (eqb (get_or p x 0) number) (Some place) (known number) ≡ cond
          (ltb (first_with p number) (x + 1)) (Some (place_from g p (first_with p number))) None
      each number (inl same) f at =
          let is : first_with p number ≡ x = ap (first_with p) (sym same) ∙ f in
          ap (λ (b : Bool). cond b (Some place) (known number)) (eq-eqb (get_or p x 0) number same)
          ∙ ap (λ (n : ℕ). Some n) (at ∙ ap (place_from g p) (sym is))
          ∙ sym (ap (λ (b : Bool). cond b (Some (place_from g p (first_with p number))) None)
          (lt-ltb (first_with p number) (x + 1) (omega arith)))
      each number (inr other) f at =
          ap (λ (b : Bool). cond b (Some place) (known number)) (ne_eqb (get_or p x 0) number other)
          ∙ s.places number
          ∙ ap (λ (b : Bool). cond b (Some (place_from g p (first_with p number))) None)
          (sym (past_same (first_with p number) x
          (λ (is : first_with p number ≡ x). other (number_of_first p x number h is))))

-- before the first node
pub placed_none : (g : Shape) (p : List ℕ) (known : ℕ → Option ℕ) (firsts : List ℕ)
    → ((number : ℕ) → known number ≡ None) → firsts ≡ [] → IsPlaced g p 0 known firsts
placed_none g p known firsts none empty = record {
  places = λ (number : ℕ). none number ∙ sym (ap (λ (b : Bool). cond b (Some
      (place_from g p (first_with p number))) None) (le-ltb (first_with p number) 0 (omega arith)));
  listed = let e : 0 - g.base ≡ 0 = omega arith in empty
      ∙ sym (ap (λ (n : ℕ). filter (λ (y : ℕ). eqb (first_of p y) y) (range_with_len g.base n)) e);
}
