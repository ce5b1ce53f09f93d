-- The bits of members in order add up.
use Rattle.std.proofs.Common.{◌≡◌, ℕ, zero, suc, ◌+◌, ◌*◌, ◌<◌, ◌≤◌, max, List, [], ◌∷◌, Some}
use Rattle.std.proofs.Common.{length, take, get_or, sum_by, refl, ap, ◌∙◌, subst, arith, add-one}
use Rattle.std.specs.List.{slice_get}
use Rattle.std.proofs.lemmas.List.{take_all}
use Rattle.std.proofs.lemmas.List.Sums.{sum_by_more}
use Rattle.std.proofs.lemmas.Option.{none-some, get_or_from_slice_get}
use Rattle.c_model.specs.declared.graph.CType.{CType}
use Rattle.layout_printer.specs.Layout.{end_of, IsLayout, IsInOrder}
use Rattle.layout_printer.specs.Measuring.{farthest}
use Rattle.layout_printer.specs.declared.slots.Slot.{Slot}
use Rattle.layout_printer.specs.declared.slots.TypeLayout.{TypeLayout}
use Rattle.layout_printer.proofs.Holes.{farthest_more, free_bits_are}

-- the farthest end is at most a bound of all ends
farthest_le : (xs : List Slot) (m : ℕ)
    → ((j : ℕ) (a : Slot) → slice_get xs j ≡ Some a → end_of a ≤ m) → farthest xs ≤ m
farthest_le [] m h = omega arith
farthest_le (x ∷ xs) m h = let one = h 0 x refl in let rest = farthest_le xs m
    (λ (j : ℕ) (a : Slot) (e : slice_get xs j ≡ Some a). h (suc j) a e) in omega arith

-- an element of a front is one of the list
from_front : (n : ℕ) (xs : List Slot) (j : ℕ) (a : Slot) → slice_get (take n xs) j ≡ Some a
    → (j < n) × (slice_get xs j ≡ Some a)
from_front zero xs j a e = absurd (none-some a e)
from_front (suc n) [] j a e = absurd (none-some a e)
from_front (suc n) (x ∷ xs) zero a e = (omega arith, e)
from_front (suc n) (x ∷ xs) (suc j) a e = let r = from_front n xs j a e in (omega (arith, r.0), r.1)

module _ (types : List CType) (pointer id : ℕ) (shown : TypeLayout)
    (is : IsLayout types pointer id shown) (order : IsInOrder shown) where
  -- the members so far and their holes reach to the farthest end
  reached : (n : ℕ) → n ≤ length shown.slots → sum_by (λ (s : Slot). s.bits) (take n shown.slots)
      + sum_by (λ (s : Slot). s.hole) (take n shown.slots) ≡ farthest (take n shown.slots)
  reached zero h = refl
  reached (suc n) h =
      let a = is.slots.each n (omega (arith, is.slots.covers)) in
      let here : get_or shown.slots n a.slot ≡ a.slot =
      get_or_from_slice_get shown.slots n a.slot a.slot a.there in
      let bits = sum_by_more (λ (s : Slot). s.bits) shown.slots n a.slot (omega arith)
      ∙ ap (λ (s : Slot). sum_by (λ (s : Slot). s.bits) (take n shown.slots) + s.bits) here in
      let hole = sum_by_more (λ (s : Slot). s.hole) shown.slots n a.slot (omega arith)
      ∙ ap (λ (s : Slot). sum_by (λ (s : Slot). s.hole) (take n shown.slots) + s.hole) here in
      let far = farthest_more shown.slots n a.slot (omega arith)
      ∙ ap (λ (s : Slot). max (farthest (take n shown.slots)) (end_of s)) here in
      let gap = a.is.hole ∙ free_bits_are (take n shown.slots) a.slot.start in
      let before : farthest (take n shown.slots) ≤ a.slot.start = farthest_le (take n shown.slots)
      a.slot.start (λ (j : ℕ) (b : Slot) (e : slice_get (take n shown.slots) j ≡ Some b).
      let f = from_front n shown.slots j b e in order.apart j n b a.slot f.0 f.1 a.there) in
      let ih = reached n (omega arith) in
      let P : ℕ → Type 0 = λ m. sum_by (λ (s : Slot). s.bits) (take m shown.slots) + sum_by
      (λ (s : Slot). s.hole) (take m shown.slots) ≡ farthest (take m shown.slots) in
      let next : P (n + 1) = omega (arith, bits, hole, far, gap, before, ih) in
      subst P (add-one n) next

  pub added : sum_by (λ (s : Slot). s.bits) shown.slots + sum_by (λ (s : Slot). s.hole) shown.slots
      + shown.padding ≡ 8 * shown.size
  added =
      let all = reached (length shown.slots) (omega arith) in
      let whole : take (length shown.slots) shown.slots ≡ shown.slots =
      take_all (length shown.slots) shown.slots (omega arith) in
      let P : List Slot → Type 0 =
      λ ss. sum_by (λ (s : Slot). s.bits) ss + sum_by (λ (s : Slot). s.hole) ss ≡ farthest ss in
      let sums : P shown.slots = subst P whole all in
      let gap = is.padding ∙ free_bits_are shown.slots (8 * shown.size) in
      let inside : farthest shown.slots ≤ 8 * shown.size =
      farthest_le shown.slots (8 * shown.size) order.within in
      omega (arith, sums, gap, inside)
