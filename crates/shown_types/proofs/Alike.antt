-- What is shown is one.
use Rattle.std.proofs.Common.{◌≡◌, ◌≤◌, ◌++◌, ◌*◌, ℕ, zero, suc, List, [], ◌∷◌, Option, None, Some}
use Rattle.std.proofs.Common.{Result, Ok, Err, All, inl, inr, refl, sym, ap, ◌∙◌, subst, arith}
use Rattle.std.proofs.Common.{length, map, take, slice_get}
use Rattle.std.proofs.lemmas.List.Elements.{All-head, All-tail}
use Rattle.std.proofs.lemmas.Option.{same_Some}
use Rattle.c_model.specs.declared.label.Part.{Part}
use Rattle.c_model.specs.declared.graph.CType.{CType}
use Rattle.btf_codec.specs.Fields.{target_at}
use Rattle.layout_printer.specs.Layout.{AreSlots, IsLayout, IsSlot, bits_of, free_bits}
use Rattle.layout_printer.specs.Layout.{is_field, start_of}
use Rattle.layout_printer.specs.declared.slots.Slot.{Slot}
use Rattle.layout_printer.specs.declared.slots.TypeLayout.{TypeLayout}
use Rattle.shown_types.specs.Listed.{chosen, missing, structure_at}
use Rattle.shown_types.specs.Laws.{AnswerIsOne, LayoutIsOne, TextIsOne}
use Rattle.shown_types.specs.Shown.{IsShown, first_no_size, whole}
use Rattle.shown_types.specs.declared.fault.ShowFault.{ShowFault}
use Rattle.shown_types.specs.declared.fault.ShowFault.TheVariants.{NoName, NoSize, Memory}

-- the value that two options have
one_value : {A : Type 0} (o : Option A) (x y : A) → o ≡ Some x → o ≡ Some y → x ≡ y
one_value o x y e f = same_Some x y (sym e ∙ f)

take_more : {A : Type 0} (xs : List A) (k : ℕ) (x : A) → slice_get xs k ≡ Some x
    → take (suc k) xs ≡ take k xs ++ (x ∷ [])
take_more [] k x h = absurd (cc)
take_more (y ∷ ys) zero x h = ap (λ z. z ∷ []) (same_Some y x h)
take_more (y ∷ ys) (suc k) x h = ap (λ zs. y ∷ zs) (take_more ys k x h)

take_whole : {A : Type 0} (xs : List A) → take (length xs) xs ≡ xs
take_whole [] = refl
take_whole (x ∷ xs) = ap (λ zs. x ∷ zs) (take_whole xs)

-- a member has one slot behind the same members
slot_one : (types : List CType) (pointer : ℕ) (t : CType) (k : ℕ) (p q : Part)
    (earlier others : List Slot) (a b : Slot) → p ≡ q → earlier ≡ others
    → IsSlot types pointer t.label.flag earlier p.value (target_at t.targets k) a
    → IsSlot types pointer t.label.flag others q.value (target_at t.targets k) b → a ≡ b
slot_one types pointer t k p q earlier others a b parts before x y =
    let start : a.start ≡ b.start =
    x.start ∙ ap (λ (r : Part). start_of t.label.flag r.value) parts ∙ sym y.start in
    let bits : a.bits ≡ b.bits =
    same_Some a.bits b.bits (sym x.bits
    ∙ ap (λ (r : Part). bits_of types pointer t.label.flag r.value (target_at t.targets k)) parts
    ∙ y.bits) in
    let field : a.field ≡ b.field =
    x.field ∙ ap (λ (r : Part). is_field t.label.flag r.value) parts ∙ sym y.field in
    let hole : a.hole ≡ b.hole =
    x.hole ∙ (λ i. free_bits (before i) (start i)) ∙ sym y.hole in
    λ i. record { start = start i; bits = bits i; field = field i; hole = hole i }

slots_one : (types : List CType) (pointer : ℕ) (t : CType) (xs ys : List Slot)
    → AreSlots types pointer t xs → AreSlots types pointer t ys
    → (k : ℕ) → k ≤ length t.label.parts → take k xs ≡ take k ys
slots_one types pointer t xs ys x y zero le = refl
slots_one types pointer t xs ys x y (suc k) le =
    let before : take k xs ≡ take k ys =
    slots_one types pointer t xs ys x y k (omega (arith, le)) in
    let a = x.each k (omega (arith, le)) in
    let b = y.each k (omega (arith, le)) in
    let slot : a.slot ≡ b.slot =
    slot_one types pointer t k a.part b.part (take k xs) (take k ys) a.slot b.slot
    (one_value (slice_get t.label.parts k) a.part b.part a.here b.here) before a.is b.is in
    take_more xs k a.slot a.there ∙ (λ i. before i ++ (slot i ∷ []))
    ∙ sym (take_more ys k b.slot b.there)

all_slots : (types : List CType) (pointer : ℕ) (t : CType) (xs ys : List Slot)
    → AreSlots types pointer t xs → AreSlots types pointer t ys → xs ≡ ys
all_slots types pointer t xs ys x y =
    sym (take_whole xs) ∙ ap (λ n. take n xs) x.covers
    ∙ slots_one types pointer t xs ys x y (length t.label.parts) (omega arith)
    ∙ ap (λ n. take n ys) (sym y.covers) ∙ take_whole ys

pub layout_one : LayoutIsOne
layout_one types pointer id a b x y =
    let t : x.t ≡ y.t = one_value _ x.t y.t x.found y.found in
    let same : a.id ≡ b.id = x.same ∙ sym y.same in
    let size : a.size ≡ b.size = x.size ∙ ap (λ (u : CType). u.label.size) t ∙ sym y.size in
    let slots : a.slots ≡ b.slots =
    all_slots types pointer y.t a.slots b.slots
    (subst (λ (u : CType). AreSlots types pointer u a.slots) t x.slots) y.slots in
    let padding : a.padding ≡ b.padding =
    x.padding ∙ (λ i. free_bits (slots i) (8 * size i)) ∙ sym y.padding in
    λ i. record { id = same i; size = size i; slots = slots i; padding = padding i }

shown_one : (types : List CType) (pointer x y : ℕ) (a b : TypeLayout) → x ≡ y
    → IsShown types pointer x a → IsShown types pointer y b → a ≡ b
shown_one types pointer x y a b e p q =
    let s : p.structure ≡ q.structure =
    same_Some p.structure q.structure (sym p.is ∙ ap (structure_at types) e ∙ q.is) in
    layout_one types pointer (suc q.structure) a b
    (subst (λ n. IsLayout types pointer (suc n) a) s p.layout) q.layout

abbrev Pair : Type 0
Pair = ℕ × TypeLayout

abbrev place : Pair → ℕ
place p = p.0

abbrev IsPair : List CType → ℕ → Pair → Type 0
IsPair types pointer p = IsShown types pointer p.0 p.1

pairs_one : (types : List CType) (pointer : ℕ) (ps qs : List Pair) → map place ps ≡ map place qs
    → All (IsPair types pointer) ps → All (IsPair types pointer) qs → ps ≡ qs
pairs_one types pointer [] [] e h g = refl
pairs_one types pointer [] (q ∷ qs) e h g = absurd (cc)
pairs_one types pointer (p ∷ ps) [] e h g = absurd (cc)
pairs_one types pointer (p ∷ ps) (q ∷ qs) e h g =
    let first : p.0 ≡ q.0 = cc in
    let rest : map place ps ≡ map place qs = cc in
    let shown : p.1 ≡ q.1 =
    shown_one types pointer p.0 q.0 p.1 q.1 first (All-head (IsPair types pointer) p ps h)
    (All-head (IsPair types pointer) q qs g) in
    let more : ps ≡ qs =
    pairs_one types pointer ps qs rest (All-tail (IsPair types pointer) p ps h)
    (All-tail (IsPair types pointer) q qs g) in
    λ i. (first i, shown i) ∷ more i

pub text_one : TextIsOne
text_one types pointer style places a b x y =
    x.text_is
    ∙ ap (whole types style) (pairs_one types pointer x.pairs y.pairs
    (x.places_are ∙ sym y.places_are) x.each y.each)
    ∙ sym y.text_is

-- two answers that say unlike things of one option
apart : {A : Type 0} {P : Type 0} (o : Option A) (x : A) → o ≡ None → o ≡ Some x → P
apart o x e f = absurd (cc)

pub answer_one : AnswerIsOne
answer_one types from pointer names style (Ok v) (Ok w) x y =
    inr (inr (ap (λ u. let r : Result (List ℕ) ShowFault = Ok u in r)
    (text_one types pointer style (chosen types from names) v w x.2 y.2)))
answer_one types from pointer names style (Ok v) (Err (NoName k)) x y =
    apart (missing types names) k x.0 y
answer_one types from pointer names style (Ok v) (Err (NoSize n)) x y =
    apart (first_no_size types pointer (chosen types from names)) n x.1 y.1
answer_one types from pointer names style a (Err Memory) x y = inr (inl refl)
answer_one types from pointer names style (Err (NoName k)) (Ok w) x y =
    apart (missing types names) k y.0 x
answer_one types from pointer names style (Err (NoName k)) (Err (NoName j)) x y =
    inr (inr (ap (λ u. let r : Result (List ℕ) ShowFault = Err (NoName u) in r)
    (one_value (missing types names) k j x y)))
answer_one types from pointer names style (Err (NoName k)) (Err (NoSize n)) x y =
    apart (missing types names) k y.0 x
answer_one types from pointer names style (Err (NoSize m)) (Ok w) x y =
    apart (first_no_size types pointer (chosen types from names)) m y.1 x.1
answer_one types from pointer names style (Err (NoSize m)) (Err (NoName j)) x y =
    apart (missing types names) j x.0 y
answer_one types from pointer names style (Err (NoSize m)) (Err (NoSize n)) x y =
    inr (inr (ap (λ u. let r : Result (List ℕ) ShowFault = Err (NoSize u) in r)
    (one_value (first_no_size types pointer (chosen types from names)) m n x.1 y.1)))
answer_one types from pointer names style (Err Memory) b x y = inl refl
