-- Runs of values and places of attributes, one attribute more at a time.
use Rattle.std.proofs.Common.{◌≡◌, ℕ, zero, suc, ◌+◌, ◌-◌, ◌<◌, ◌≤◌, ◌==◌, ◌||◌, Bool, true, false, List}
use Rattle.std.proofs.Common.{[], ◌∷◌, ◌++◌, length, take, drop, get_or, slice_get, slice_set}
use Rattle.std.proofs.Common.{Option, None, Some, if◌then◌else◌, ◌⊎◌, inl, inr}
use Rattle.std.proofs.Common.{refl, sym, ap, ◌∙◌, subst, arith}
use Rattle.std.specs.Option.{option_map}
use Rattle.std.proofs.Math.Dec.{eqb}
use Rattle.std.proofs.lemmas.Bool.{eqb-true, ne_eqb, or_parts}
use Rattle.std.proofs.lemmas.Bool.Decides.{eqb_tells}
use Rattle.std.proofs.lemmas.Option.{slice_get-get_or}
use Rattle.std.proofs.lemmas.List.{take_more, take_all, drop_all, drop-append-le, length-take}
use Rattle.std.proofs.lemmas.List.{get_or_default}
use Rattle.dwarf_abbrev.specs.Sizes.{bytes_of, plus, sizes_of, total, IsSize}
use Rattle.dwarf_abbrev.specs.ValueMaps.{has_spec, IsFirst, slot_in, slots, slot_of, SaysFirst}
use Rattle.dwarf_abbrev.specs.ValueMaps.{IsPlaceOf, ArePlaces, IsRun, AreRuns}
use Rattle.dwarf_abbrev.specs.declared.spec.Spec.{Spec}
use Rattle.dwarf_abbrev.specs.declared.runs.FixedRun.{FixedRun}
use Rattle.dwarf_abbrev.specs.declared.slots.TheConstants.{MISSING, FAR}
use Rattle.dwarf_abbrev.proofs.Sizing.{sizes_push}

one_without : (b : Bool) → b ≡ false → (b || false) ≡ false
one_without b h = rw h refl

has_spec_push : (ss : List Spec) (s : Spec) (name : ℕ) → has_spec name ss ≡ false
    → (s.attribute ≡ name → ⊥) → has_spec name (ss ++ s ∷ []) ≡ false
has_spec_push [] s name h ne = one_without (s.attribute == name) (ne_eqb s.attribute name ne)
has_spec_push (t ∷ ss) s name h ne =
    let n = or_parts (t.attribute == name) (has_spec name ss) h in
    rw n.0 (has_spec_push ss s name n.1 ne)

pub one_more_without : (specs : List Spec) (i name : ℕ) (d : Spec) → i < length specs
    → has_spec name (take i specs) ≡ false → ((get_or specs i d).attribute ≡ name → ⊥)
    → has_spec name (take (i + 1) specs) ≡ false
one_more_without specs i name d lt h ne =
    ap (has_spec name) (take_more specs i d lt)
    ∙ has_spec_push (take i specs) (get_or specs i d) name h ne

-- the name of a slot
at_slot : (b : Bool) (o : Option ℕ) (name n k : ℕ) (ns : List ℕ) → (b ≡ true → name ≡ n)
    → ((j : ℕ) → o ≡ Some j → slice_get ns j ≡ Some name)
    → (if b then Some 0 else option_map (λ (k : ℕ). suc k) o) ≡ Some k
    → slice_get (n ∷ ns) k ≡ Some name
at_slot true o name n zero ns is later e = ap (λ (m : ℕ). Some m) (sym (is refl))
at_slot true o name n (suc k) ns is later e = cc
at_slot false None name n k ns is later e = cc
at_slot false (Some j) name n zero ns is later e = cc
at_slot false (Some j) name n (suc k) ns is later e = let p : j ≡ k = cc in
    later k (ap (λ (m : ℕ). Some m) p)

slot_there : (ns : List ℕ) (name k : ℕ) → slot_in name ns ≡ Some k → slice_get ns k ≡ Some name
slot_there [] name k e = cc
slot_there (n ∷ ns) name k e =
    at_slot (name == n) (slot_in name ns) name n k ns (eqb-true name n) (slot_there ns name) e

pub one_name : (a b k : ℕ) → slot_of a ≡ Some k → slot_of b ≡ Some k → a ≡ b
unfolding slot_of
one_name a b k p q =
    let e : Some a ≡ Some b = sym (slot_there slots a k p) ∙ slot_there slots b k q in cc

-- what a slot says stays, where the next attribute has another name or the slot has its place
pub says_still : (specs : List Spec) (i name : ℕ) (p : ℕ) (d : Spec) → i < length specs
    → SaysFirst name specs i p → (p ≡ MISSING → (get_or specs i d).attribute ≡ name → ⊥)
    → SaysFirst name specs (i + 1) p
says_still specs i name p d lt says ne =
    record {
      at = says.at;
      missing = λ m. one_more_without specs i name d lt (says.missing m) (ne m);
    }

-- one attribute more is noted
clash : {X P : Type 0} (o : Option X) (x : X) → o ≡ None → o ≡ Some x → P
clash None x n e = cc
clash (Some y) x n e = cc

same_slot : (a b : Option ℕ) (j k : ℕ) → a ≡ b → a ≡ Some j → b ≡ Some k → j ≡ k
same_slot a b j k is p q = let e : Some j ≡ Some k = sym p ∙ is ∙ q in cc

pub placed_other : (specs : List Spec) (n : ℕ) (d : Spec) (places : List ℕ)
    → n < length specs → slot_of (get_or specs n d).attribute ≡ None → ArePlaces specs n places
    → ArePlaces specs (n + 1) places
placed_other specs n d places lt other are name k p e h =
    says_still specs n name p d lt (are name k p e h)
    (λ (none : p ≡ MISSING) (is : (get_or specs n d).attribute ≡ name).
    clash (slot_of name) k (sym (ap slot_of is) ∙ other) e)

pub placed_known : (specs : List Spec) (n k : ℕ) (d : Spec) (places : List ℕ) (r : ℕ)
    → n < length specs → slot_of (get_or specs n d).attribute ≡ Some k
    → slice_get places k ≡ Some r → (r ≡ MISSING → ⊥) → ArePlaces specs n places
    → ArePlaces specs (n + 1) places
placed_known specs n k d places r lt slot has some are name j p e h =
    says_still specs n name p d lt (are name j p e h)
    (λ (none : p ≡ MISSING) (is : (get_or specs n d).attribute ≡ name).
    let q : j ≡ k = same_slot (slot_of name) (slot_of (get_or specs n d).attribute) j k
    (sym (ap slot_of is)) e slot in
    let both : Some r ≡ Some p = sym has ∙ ap (slice_get places) (sym q) ∙ h in
    let one : r ≡ p = cc in
    some (one ∙ none))

set_same : {X : Type 0} (xs : List X) (k : ℕ) (v w : X) → slice_get (slice_set xs k v) k ≡ Some w
    → v ≡ w
set_same [] k v w e = cc
set_same (x ∷ xs) zero v w e = cc
set_same (x ∷ xs) (suc k) v w e = set_same xs k v w e

set_other : {X : Type 0} (xs : List X) (k j : ℕ) (v : X) → (j ≡ k → ⊥)
    → slice_get (slice_set xs k v) j ≡ slice_get xs j
set_other [] k j v ne = refl
set_other (x ∷ xs) zero zero v ne = absurd (ne refl)
set_other (x ∷ xs) zero (suc j) v ne = refl
set_other (x ∷ xs) (suc k) zero v ne = refl
set_other (x ∷ xs) (suc k) (suc j) v ne = set_other xs k j v (λ (e : j ≡ k). ne (ap suc e))

first_is : (specs : List Spec) (n name : ℕ) (d : Spec) → n < length specs
    → (get_or specs n d).attribute ≡ name → has_spec name (take n specs) ≡ false
    → IsFirst name specs n
first_is specs n name d lt is before =
    record {
      inside = lt;
      before = before;
      there = λ (e : Spec). ap (λ (s : Spec). s.attribute) (get_or_default specs n e d lt) ∙ is;
    }

noted : (specs : List Spec) (n name : ℕ) (d : Spec) (p : ℕ) → n < length specs
    → (get_or specs n d).attribute ≡ name → has_spec name (take n specs) ≡ false → IsPlaceOf n p
    → SaysFirst name specs (n + 1) p
noted specs n name d p lt is before place =
    record {
      at = λ q. subst (IsFirst name specs) (sym (place.at q))
          (first_is specs n name d lt is before);
      missing = λ q. absurd (place.missing q);
    }

pub placed_new : (specs : List Spec) (n k : ℕ) (d : Spec) (places : List ℕ) (v : ℕ)
    → n < length specs → slot_of (get_or specs n d).attribute ≡ Some k
    → slice_get places k ≡ Some MISSING → IsPlaceOf n v → ArePlaces specs n places
    → ArePlaces specs (n + 1) (slice_set places k v)
placed_new specs n k d places v lt slot here place are name j p e h = by_slot (eqb_tells j k) where
  by_slot : ((eqb j k ≡ true) × (j ≡ k)) ⊎ ((eqb j k ≡ false) × (j ≡ k → ⊥))
      → SaysFirst name specs (n + 1) p
  by_slot (inl same) =
      let at : slot_of name ≡ Some k = e ∙ ap (λ (i : ℕ). Some i) same.1 in
      let got : slice_get (slice_set places k v) k ≡ Some p =
      ap (λ (i : ℕ). slice_get (slice_set places k v) i) (sym same.1) ∙ h in
      noted specs n name d p lt (one_name (get_or specs n d).attribute name k slot at)
      ((are name k MISSING at here).missing refl)
      (subst (IsPlaceOf n) (set_same places k v p got) place)
  by_slot (inr other) =
      says_still specs n name p d lt
      (are name j p e (sym (set_other places k j v other.1) ∙ h))
      (λ (no : p ≡ MISSING) (is : (get_or specs n d).attribute ≡ name).
      absurd (other.1 (same_slot (slot_of name) (slot_of (get_or specs n d).attribute) j k
      (sym (ap slot_of is)) e slot)))

-- no attribute is noted yet
pub placed_none : (specs : List Spec) (places : List ℕ)
    → ((k : ℕ) (p : ℕ) → slice_get places k ≡ Some p → p ≡ MISSING) → ArePlaces specs 0 places
placed_none specs places none name k p e h =
    record {
      at = λ (q : p < FAR). let e : p ≡ MISSING = none k p h in absurd (omega (arith, e, q));
      missing = λ q. refl;
    }

-- what is at the place of a slot
pub at_place : (slots : List ℕ) (k p : ℕ) → k < length slots → get_or slots k 0 ≡ p
    → slice_get slots k ≡ Some p
at_place slots k p short is = slice_get-get_or slots k 0 short ∙ ap (λ (q : ℕ). Some q) is

-- all attributes are noted
pub missing_all : (specs : List Spec) (name k : ℕ) (places : List ℕ)
    → slot_of name ≡ Some k → slice_get places k ≡ Some MISSING
    → ArePlaces specs (length specs) places → has_spec name specs ≡ false
missing_all specs name k places slot has are =
    ap (has_spec name) (sym (take_all (length specs) specs (omega arith)))
    ∙ (are name k MISSING slot has).missing refl

-- a run before the next attribute
pub run_grows : (specs : List Spec) (i from : ℕ) (d : Spec) (here next : FixedRun) → i < length specs
    → from ≤ i → IsSize (drop from (take i specs)) here
    → ((o a : ℕ) → plus (Some (total o a here)) (bytes_of o a (get_or specs i d).form)
    ≡ Some (total o a next))
    → IsSize (drop from (take (i + 1) specs)) next
run_grows specs i from d here next lt le h n o a =
    let count : from ≤ length (take i specs) = omega (arith, length-take i specs, le, lt) in
    ap (sizes_of o a) (ap (drop from) (take_more specs i d lt)
    ∙ drop-append-le from (take i specs) (get_or specs i d ∷ []) count)
    ∙ sizes_push o a (drop from (take i specs)) (get_or specs i d)
    ∙ ap (λ (p : Option ℕ). plus p (bytes_of o a (get_or specs i d).form)) (h o a) ∙ n o a

-- a run of no values
run_begins : (specs : List Spec) (n : ℕ) (none : FixedRun) → ((o a : ℕ) → total o a none ≡ 0)
    → IsSize (drop n (take n specs)) none
run_begins specs n none empty o a =
    let le : length (take n specs) ≤ n = omega (arith, length-take n specs) in
    ap (sizes_of o a) (drop_all n (take n specs) le)
    ∙ ap (λ (k : ℕ). Some k) (sym (empty o a))

pub empty_run : (specs : List Spec) (n : ℕ)
    → IsRun specs n (record { values = 0; bytes = 0; offsets = 0; addresses = 0 })
empty_run specs n =
    let e : n - 0 ≡ n = omega arith in (
      omega arith,
      λ o a. rw e (run_begins specs n
          (record { values = 0; bytes = 0; offsets = 0; addresses = 0 }) (λ o a. omega arith) o a),
    )

-- an element of a list with one more at the end
pub pushed : {X : Type 0} (xs : List X) (y : X) (i : ℕ) (z : X) → slice_get (xs ++ y ∷ []) i ≡ Some z
    → (slice_get xs i ≡ Some z) ⊎ ((i ≡ length xs) × (y ≡ z))
pushed [] y zero z e = inr (refl, cc)
pushed [] y (suc i) z e = cc
pushed (x ∷ xs) y zero z e = inl e
pushed (x ∷ xs) y (suc i) z e = moved (pushed xs y i z e) where
  moved : (slice_get xs i ≡ Some z) ⊎ ((i ≡ length xs) × (y ≡ z))
      → (slice_get xs i ≡ Some z) ⊎ ((suc i ≡ suc (length xs)) × (y ≡ z))
  moved (inl h) = inl h
  moved (inr h) = inr (ap suc h.0, h.1)

added : (specs : List Spec) (runs : List FixedRun) (run z : FixedRun) (i : ℕ) → AreRuns specs runs
    → IsRun specs (length runs) run
    → (slice_get runs i ≡ Some z) ⊎ ((i ≡ length runs) × (run ≡ z)) → IsRun specs i z
added specs runs run z i all here (inl h) = all i z h
added specs runs run z i all here (inr h) = rw (h.0, sym h.1) here

pub are_more : (specs : List Spec) (runs : List FixedRun) (run : FixedRun) → AreRuns specs runs
    → IsRun specs (length runs) run → AreRuns specs (runs ++ run ∷ [])
are_more specs runs run all here i z e = added specs runs run z i all here (pushed runs run i z e)

pub are_none : (specs : List Spec) → AreRuns specs []
are_none specs i r e = cc
