-- The bits past the ends of members: those from the farthest end on.
use Rattle.std.proofs.Common.{◌≡◌, ℕ, zero, suc, ◌+◌, ◌-◌, ◌<◌, ◌≤◌, max, cond, List, [], ◌∷◌, ◌++◌}
use Rattle.std.proofs.Common.{◌&&◌, length, take, get_or, sym, ap, ◌∙◌, ⊎_elim, arith, leb, add-one}
use Rattle.std.proofs.Common.{zero-add}
use Rattle.std.specs.List.{range_with_len, count_by}
use Rattle.std.proofs.lemmas.List.{map-id, take_more}
use Rattle.std.proofs.lemmas.List.FromFn.{map-range_with_len_more}
use Rattle.std.proofs.lemmas.List.Sums.{sum_by_push}
use Rattle.std.proofs.lemmas.Bool.{cond-true, cond-false, le-leb, lt-leb, cases_lt}
use Rattle.std.proofs.lemmas.Bool.Decides.{nat_tests}
use Rattle.layout_printer.specs.Layout.{end_of, is_past, free_bits}
use Rattle.layout_printer.specs.Measuring.{farthest}
use Rattle.layout_printer.specs.declared.slots.Slot.{Slot}

-- one more member
pub farthest_push : (ss : List Slot) (s : Slot)
    → farthest (ss ++ s ∷ []) ≡ max (farthest ss) (end_of s)
farthest_push [] s = omega arith
farthest_push (a ∷ ss) s = let e = farthest_push ss s in omega arith

pub farthest_more : (ss : List Slot) (i : ℕ) (d : Slot) → i < length ss
    → farthest (take (i + 1) ss) ≡ max (farthest (take i ss)) (end_of (get_or ss i d))
farthest_more ss i d h =
    ap farthest (take_more ss i d h) ∙ farthest_push (take i ss) (get_or ss i d)

leb_max : (x y b : ℕ) → (leb x b && leb y b) ≡ leb (max x y) b
leb_max x y b = grind (arith, nat_tests)

-- a bit is past all ends where it is past the farthest
pub is_past-farthest : (ss : List Slot) (b : ℕ) → is_past ss b ≡ leb (farthest ss) b
is_past-farthest [] b = sym (le-leb 0 b (omega arith))
is_past-farthest (s ∷ ss) b =
    ap (λ t. leb (end_of s) b && t) (is_past-farthest ss b) ∙ leb_max (end_of s) (farthest ss) b

pub range_push : (n : ℕ) → range_with_len 0 (n + 1) ≡ range_with_len 0 n ++ n ∷ []
range_push n = sym (map-id (range_with_len 0 (n + 1))) ∙ map-range_with_len_more
    (λ x. x) 0 n n (zero-add n) ∙ ap (λ l. l ++ n ∷ []) (map-id (range_with_len 0 n))

farther_step : (f n : ℕ) → n - f + cond (leb f n) 1 0 ≡ suc n - f
farther_step f n = ⊎_elim
    (λ (below : n < f). ap (λ m. n - f + m) (cond-false (leb f n) 1 0 (lt-leb f n below))
    ∙ omega arith)
    (λ (above : f ≤ n). ap (λ m. n - f + m) (cond-true (leb f n) 1 0 (le-leb f n above))
    ∙ omega arith)
    (cases_lt n f)

pub free_bits_are : (ss : List Slot) (n : ℕ) → free_bits ss n ≡ n - farthest ss
unfolding free_bits
free_bits_are ss zero = omega arith
free_bits_are ss (suc n) =
    ap (λ m. count_by (is_past ss) (range_with_len 0 m)) (sym (add-one n))
    ∙ ap (count_by (is_past ss)) (range_push n)
    ∙ sum_by_push (λ b. cond (is_past ss b) 1 0) (range_with_len 0 n) n
    ∙ ap (λ m. m + cond (is_past ss n) 1 0) (free_bits_are ss n)
    ∙ ap (λ t. n - farthest ss + cond t 1 0) (is_past-farthest ss n)
    ∙ farther_step (farthest ss) n

-- a hole by the farthest end
pub hole_is : (ss : List Slot) (hole from start end : ℕ) → hole ≡ from - end → from ≡ start
    → end ≡ farthest ss → hole ≡ free_bits ss start
hole_is ss hole from start end e s f =
    e ∙ ap (λ m. m - end) s ∙ ap (λ m. start - m) f ∙ sym (free_bits_are ss start)
