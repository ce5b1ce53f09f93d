-- Sources are noted node by node.
use Rattle.std.proofs.Common.{◌≡◌, ◌<◌, ◌+◌, ℕ, Bool, true, false, cond, not, is_some, ◌&&◌, List}
use Rattle.std.proofs.Common.{[], ◌∷◌, Option, None, Some, length, get_or, set, replicate, refl}
use Rattle.std.proofs.Common.{sym, ◌∙◌, ap, arith, eqb, ◌⊎◌, inl, inr, unwrap_or}
use Rattle.std.specs.List.{find, range_with_len}
use Rattle.std.specs.Option.{option_or}
use Rattle.std.proofs.lemmas.Bool.{cases_eq, eq-eqb, ne_eqb}
use Rattle.std.proofs.lemmas.List.{get_or-set_same, get_or-set_other, length-set, get_or-replicate}
use Rattle.std.proofs.lemmas.List.{length-replicate}
use Rattle.std.proofs.lemmas.List.Folds.{find-append}
use Rattle.c_model.specs.Graph.{Shape}
use Rattle.c_model.specs.Forwards.{forward_at}
use Rattle.dw_base.proofs.Options.{or_none}
use Rattle.split_base.specs.Building.{plain_below, source_by, IsNoted}
use Rattle.split_base.proofs.Placing.{range_push}

-- a node may be the first that is no forward and of the class at a place
plain_next : (g : Shape) (places : List ℕ) (x place : ℕ)
    → plain_below g places (x + 1) place ≡ option_or (plain_below g places x place)
    (cond (eqb (get_or places x 0) place && not (is_some (forward_at g x))) (Some x) None)
plain_next g places x place =
    let test : ℕ → Bool =
    λ (k : ℕ). eqb (get_or places k 0) place && not (is_some (forward_at g k)) in
    let e : 0 + x ≡ x = omega arith in
    ap (find test) (range_push 0 x) ∙ find-append test (range_with_len 0 x) ((0 + x) ∷ [])
    ∙ ap (λ (y : ℕ). option_or (plain_below g places x place) (find test (y ∷ []))) e

other_place : (g : Shape) (places : List ℕ) (x place : ℕ) → (get_or places x 0 ≡ place → ⊥)
    → plain_below g places (x + 1) place ≡ plain_below g places x place
other_place g places x place ne =
    plain_next g places x place
    ∙ ap (λ (b : Bool). option_or (plain_below g places x place) (cond
    (b && not (is_some (forward_at g x))) (Some x) None)) (ne_eqb (get_or places x 0) place ne)
    ∙ or_none (plain_below g places x place)

cond_not : (b : Bool) (x : ℕ) → cond (not b) (Some x) None ≡ cond b None (Some x)
cond_not true x = refl
cond_not false x = refl

this_place : (g : Shape) (places : List ℕ) (x place : ℕ) → get_or places x 0 ≡ place
    → plain_below g places (x + 1) place
    ≡ option_or (plain_below g places x place) (cond (is_some (forward_at g x)) None (Some x))
this_place g places x place e =
    plain_next g places x place
    ∙ ap (λ (b : Bool). option_or (plain_below g places x place) (cond
    (b && not (is_some (forward_at g x))) (Some x) None)) (eq-eqb (get_or places x 0) place e)
    ∙ ap (option_or (plain_below g places x place)) (cond_not (is_some (forward_at g x)) x)

-- a node of a class with base nodes
pub noted_base : (g : Shape) (places : List ℕ) (x : ℕ) (plain : List (Option ℕ))
    → get_or places x 0 < g.base → IsNoted g places x plain → IsNoted g places (x + 1) plain
noted_base g places x plain h s = record {
  each = λ (i : ℕ) (lt : i < length plain). s.each i lt ∙ sym (other_place g places x (g.base + i)
      (λ (e : get_or places x 0 ≡ g.base + i). absurd (omega arith)));
}

-- a node of an own class
pub noted_own : (g : Shape) (places : List ℕ) (x i : ℕ) (plain : List (Option ℕ)) (r : Option ℕ)
    → get_or places x 0 ≡ g.base + i → i < length plain
    → r ≡ option_or (get_or plain i None) (cond (is_some (forward_at g x)) None (Some x))
    → IsNoted g places x plain → IsNoted g places (x + 1) (set plain i r)
noted_own g places x i plain r at lt is s = record {
  each = λ (k : ℕ) (h : k < length (set plain i r)).
      each k (omega (arith, length-set plain i r)) (cases_eq k i);
}
  where
    each : (k : ℕ) → k < length plain → (k ≡ i) ⊎ (k ≡ i → ⊥)
        → get_or (set plain i r) k None ≡ plain_below g places (x + 1) (g.base + k)
    each k h (inl e) =
        ap (λ (m : ℕ). get_or (set plain i r) m None) e ∙ get_or-set_same plain i r None lt ∙ is
        ∙ ap (λ (o : Option ℕ). option_or o (cond (is_some (forward_at g x)) None (Some x)))
        (s.each i lt)
        ∙ sym (this_place g places x (g.base + i) at)
        ∙ ap (λ (m : ℕ). plain_below g places (x + 1) (g.base + m)) (sym e)
    each k h (inr ne) =
        get_or-set_other plain i k r None ne ∙ s.each k h ∙ sym (other_place g places x (g.base + k)
        (λ (e : get_or places x 0 ≡ g.base + k). absurd (ne (omega arith))))

-- before the first node
pub noted_none : (g : Shape) (places : List ℕ) (plain : List (Option ℕ)) (own : ℕ)
    → plain ≡ replicate own None → (length plain ≡ own) × IsNoted g places 0 plain
noted_none g places plain own e = (
  ap length e ∙ length-replicate own None,
  record {
    each = λ (i : ℕ) (lt : i < length plain).
        ap (λ (os : List (Option ℕ)). get_or os i None) e
        ∙ get_or-replicate own i None None (omega (
          arith,
          ap length e,
          let l : length
              (replicate {A = Option ℕ} own None) ≡ own = length-replicate own None in l,
        ));
  },
)

-- what is noted after all nodes gives the source
pub source_noted : (g : Shape) (places : List ℕ) (plain : List (Option ℕ)) (i f r : ℕ)
    → i < length plain → IsNoted g places (length g.nodes) plain → get_or places f 0 ≡ g.base + i
    → r ≡ unwrap_or (get_or plain i None) f → r ≡ source_by g places f
source_noted g places plain i f r lt s at is =
    is ∙ ap (λ (o : Option ℕ). unwrap_or o f) (s.each i lt)
    ∙ ap (λ (place : ℕ). unwrap_or (find (λ (k : ℕ). eqb (get_or places k 0) place
    && not (is_some (forward_at g k))) (range_with_len 0 (length g.nodes))) f) (sym at)
