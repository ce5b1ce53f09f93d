-- The children of an entry are those whose parent it is.
use Rattle.std.proofs.Common.{◌≡◌, ◌≢◌, ℕ, zero, suc, ◌+◌, ◌-◌, ◌<◌, ◌≤◌, ◌⊎◌, inl, inr, ◌==◌}
use Rattle.std.proofs.Common.{nat_le, Bool, true, false, List, [], ◌∷◌, ◌++◌, subst, length, Option}
use Rattle.std.proofs.Common.{Some, Result, Ok, Err, if◌then◌else◌, refl, sym, ap, ◌∙◌, arith}
use Rattle.std.specs.Prelude.{All}
use Rattle.std.proofs.lemmas.Bool.{eqb-true, eqb-false, eq-eqb, ne_eqb, leb-true, leb-false}
use Rattle.std.proofs.lemmas.List.Elements.{All-nil, All-cons, All-head, All-tail, All-weaker}
use Rattle.dwarf_abbrev.specs.Declarations.{Declaration}
use Rattle.dwarf_forms.specs.Values.{Within}
use Rattle.entry_tree.specs.Items.{Given, Standing, Coming, item_at, after_item, coming, opened}
use Rattle.entry_tree.specs.Items.Standing.{nothing, null, entry}
use Rattle.entry_tree.specs.declared.fault.WalkFault.{WalkFault}
use Rattle.type_attributes.specs.Children.{children_of}
use Rattle.c_types.specs.Parents.{parent_in, is_parent, those_of, Descends, ChildrenHaveParent}
use Rattle.c_types.specs.Parents.{ComingDescends, onto, UnitChildrenHaveParent}
use Rattle.entry_tree.specs.Contexts.{within_of}
use Rattle.entry_tree.specs.Rising.{Rises}
use Rattle.entry_tree.proofs.Rising.{entries_placed}

-- an entry of a place has a depth, among those before
abbrev Mine : ℕ → ℕ → Given → Type 0
Mine a d q = q.at ≡ a → q.depth ≡ d

abbrev Behind : ℕ → Given → Type 0
Behind a x = a < x.at

other : (a d k : ℕ) (q : Given) (rest : Option Given) (t s : Bool) → (q.depth + 1 == k) ≡ t
    → (q.at == a) ≡ s → Mine a d q → (k ≡ d + 1 → ⊥) → is_parent a rest ≡ false
    → is_parent a (if t then Some q else rest) ≡ false
other a d k q rest true true e f mine ne h = let p : q.depth + 1 ≡ k = eqb-true (q.depth + 1) k e in
    let m : q.depth ≡ d = mine (eqb-true q.at a f) in absurd (ne (omega (arith, p, m)))
other a d k q rest true false e f mine ne h = f
other a d k q rest false s e f mine ne h = h

not_mine : (a d k : ℕ) (earlier : List Given) → All (Mine a d) earlier → (k ≡ d + 1 → ⊥)
    → is_parent a (parent_in earlier k) ≡ false
not_mine a d k [] h ne = refl
not_mine a d k (q ∷ qs) h ne = other a d k q (parent_in qs k) (q.depth + 1 == k) (q.at == a) refl
    refl (All-head (Mine a d) q qs h) ne (not_mine a d k qs (All-tail (Mine a d) q qs h) ne)

behind_mine : (a d : ℕ) (x : Given) → a < x.at → Mine a d x
behind_mine a d x lt e = absurd (omega (arith, lt, e))

-- no more children come: nothing is deep enough, or a later entry is the parent
abbrev Over : ℕ → ℕ → ℕ → List Given → Type 0
Over a d most earlier = (most ≤ d) ⊎ (is_parent a (parent_in earlier (d + 1)) ≡ false)

over_same : (a d : ℕ) (x : Given) (earlier : List Given) (most : ℕ) (t : Bool)
    → (x.depth + 1 == d + 1) ≡ t → a < x.at → x.depth ≤ most → Over a d most earlier
    → Over a d (x.depth + 1) (x ∷ earlier)
over_same a d x earlier most true e lt le h =
    inr (rw e (ne_eqb x.at a (λ (p : x.at ≡ a). omega (arith, p, lt))))
over_same a d x earlier most false e lt le (inl h) = let ne : (x.depth + 1 ≡ d + 1 → ⊥) =
    eqb-false (x.depth + 1) (d + 1) e in inl (omega (arith, le, h, ne))
over_same a d x earlier most false e lt le (inr h) = inr (rw e h)

over_no : (a d k most : ℕ) (earlier : List Given) (t : Bool) → (k == d + 1) ≡ t → All (Mine a d)
    earlier → k ≤ most → Over a d most earlier → is_parent a (parent_in earlier k) ≡ false
over_no a d k most earlier true e all le (inl h) = let p : k ≡ d + 1 = eqb-true k (d + 1) e in
    absurd (omega (arith, p, le, h))
over_no a d k most earlier true e all le (inr h) = let p : k ≡ d + 1 = eqb-true k (d + 1) e in
    ap (λ (n : ℕ). is_parent a (parent_in earlier n)) p ∙ h
over_no a d k most earlier false e all le h = not_mine a d k earlier all (eqb-false k (d + 1) e)

none_left : (a d most : ℕ) (earlier es : List Given) → All (Mine a d) earlier → All (Behind a) es
    → Descends most es → Over a d most earlier → those_of a earlier es ≡ []
none_left a d most earlier [] all behind low over = refl
none_left a d most earlier (x ∷ es) all behind low over =
    let lt : a < x.at = All-head (Behind a) x es behind in
    let no : is_parent a (parent_in earlier x.depth) ≡ false =
    over_no a d x.depth most earlier (x.depth == d + 1) refl all low.0 over in
    rw no (none_left a d (x.depth + 1) (x ∷ earlier) es
    (All-cons (Mine a d) x earlier (behind_mine a d x lt) all) (All-tail (Behind a) x es behind)
    low.1 (over_same a d x earlier most (x.depth + 1 == d + 1) refl lt low.0 over))

-- it begins where an entry is not deeper
over_new : (a d : ℕ) (x : Given) (earlier : List Given) (t : Bool) → (x.depth + 1 == d + 1) ≡ t
    → a < x.at → x.depth ≤ d → Over a d (x.depth + 1) (x ∷ earlier)
over_new a d x earlier true e lt le =
    inr (rw e (ne_eqb x.at a (λ (p : x.at ≡ a). omega (arith, p, lt))))
over_new a d x earlier false e lt le = let ne : (x.depth + 1 ≡ d + 1 → ⊥) =
    eqb-false (x.depth + 1) (d + 1) e in inl (omega (arith, le, ne))

still : (a d : ℕ) (x : Given) (earlier : List Given) → d < x.depth → is_parent a
    (parent_in earlier (d + 1)) ≡ true → is_parent a (parent_in (x ∷ earlier) (d + 1)) ≡ true
still a d x earlier lt h = let no : (x.depth + 1 == d + 1) ≡ false =
    ne_eqb (x.depth + 1) (d + 1) (λ (p : x.depth + 1 ≡ d + 1). omega (arith, p, lt)) in rw no h

by_depth : (a d most : ℕ) (earlier : List Given) (x : Given) (es : List Given) (t s : Bool)
    → nat_le x.depth d ≡ t → (x.depth - d == 1) ≡ s → All (Mine a d) earlier → All (Behind a)
    (x ∷ es) → Descends most (x ∷ es) → is_parent a (parent_in earlier (d + 1)) ≡ true
    → (is_parent a (parent_in (x ∷ earlier) (d + 1)) ≡ true → children_of d es
    ≡ those_of a (x ∷ earlier) es) → children_of d (x ∷ es) ≡ those_of a earlier (x ∷ es)
by_depth a d most earlier x es true s e f all behind low mine ih =
    let lt : a < x.at = All-head (Behind a) x es behind in
    let le : x.depth ≤ d = leb-true x.depth d e in
    let no : is_parent a (parent_in earlier x.depth) ≡ false =
    not_mine a d x.depth earlier all (λ (p : x.depth ≡ d + 1). omega (arith, p, le)) in
    rw (e, no) (sym (none_left a d (x.depth + 1) (x ∷ earlier) es
    (All-cons (Mine a d) x earlier (behind_mine a d x lt) all) (All-tail (Behind a) x es behind)
    low.1 (over_new a d x earlier (x.depth + 1 == d + 1) refl lt le)))
by_depth a d most earlier x es false true e f all behind low mine ih =
    let gt : d < x.depth = leb-false x.depth d e in
    let one : x.depth - d ≡ 1 = eqb-true (x.depth - d) 1 f in
    let is : x.depth ≡ d + 1 = omega (arith, one, gt) in
    let yes : is_parent a (parent_in earlier x.depth) ≡ true =
    ap (λ (n : ℕ). is_parent a (parent_in earlier n)) is ∙ mine in
    rw (e, f, yes) (ap (λ (es : List Given). x ∷ es) (ih (still a d x earlier gt mine)))
by_depth a d most earlier x es false false e f all behind low mine ih =
    let gt : d < x.depth = leb-false x.depth d e in
    let ne : (x.depth - d ≡ 1 → ⊥) = eqb-false (x.depth - d) 1 f in
    let no : is_parent a (parent_in earlier x.depth) ≡ false =
    not_mine a d x.depth earlier all (λ (p : x.depth ≡ d + 1). ne (omega (arith, p))) in
    rw (e, f, no) (ih (still a d x earlier gt mine))

live : (a d most : ℕ) (earlier es : List Given) → All (Mine a d) earlier → All (Behind a) es
    → Descends most es → is_parent a (parent_in earlier (d + 1)) ≡ true
    → children_of d es ≡ those_of a earlier es
live a d most earlier [] all behind low mine = refl
live a d most earlier (x ∷ es) all behind low mine =
    by_depth a d most earlier x es (nat_le x.depth d)
    (x.depth - d == 1) refl refl all behind low mine
    (λ (m : is_parent a (parent_in (x ∷ earlier) (d + 1)) ≡ true).
    live a d (x.depth + 1) (x ∷ earlier) es (All-cons (Mine a d) x earlier (behind_mine a d x
    (All-head (Behind a) x es behind)) all) (All-tail (Behind a) x es behind) low.1 m)

pub children_are : ChildrenHaveParent
children_are earlier e after apart rise low =
    let here : (e.depth + 1 == e.depth + 1) ≡ true = eq-eqb (e.depth + 1) (e.depth + 1) refl in
    let at : (e.at == e.at) ≡ true = eq-eqb e.at e.at refl in
    live e.at e.depth (e.depth + 1) (e ∷ earlier) after
    (All-cons (Mine e.at e.depth) e earlier
    (λ p. refl) (All-weaker (λ (p : Given). p.at ≢ e.at) (Mine e.at e.depth)
    (λ (p : Given) (ne : p.at ≢ e.at) (is : p.at ≡ e.at). absurd (ne is)) earlier apart))
    rise.0 low (rw here at)

-- what comes in a unit
wider : (most more : ℕ) (es : List Given) → most ≤ more → Descends most es → Descends more es
wider most more [] le h = tt
wider most more (e ∷ es) le h = (omega (arith, le, h.0), h.1)

opened_most : (d : Declaration) (lists : ℕ) (t : Bool)
    → (if t then lists + 1 else lists) ≤ lists + 1
opened_most d lists true = omega arith
opened_most d lists false = omega arith

item_descends : (c : Within) (at lists : ℕ) (go : ℕ → ℕ → Coming) (r : Result Standing WalkFault)
    → ((end more : ℕ) → Descends more (go end more).entries)
    → Descends lists (after_item c at lists go r).entries
item_descends c at lists go (Err f) ih = tt
item_descends c at lists go (Ok nothing) ih = tt
item_descends c at lists go (Ok (null end)) ih =
    wider (lists - 1) lists (go end (lists - 1)).entries (omega arith) (ih end (lists - 1))
item_descends c at lists go (Ok (entry d from end)) ih = (
  omega arith,
  wider (opened d lists) (lists + 1) (go end (opened d lists)).entries
      (opened_most d lists d.children) (ih end (opened d lists)),
)

coming_low : (c : Within) (declarations : List Declaration) (first n at lists : ℕ)
    → Descends lists (coming c declarations first n at lists).entries
unfolding coming
coming_low c declarations first zero at lists = tt
coming_low c declarations first (suc n) at lists =
    item_descends c at lists (λ (next more : ℕ). coming c declarations first n next more) (item_at c
    declarations first at lists) (λ (end more : ℕ). coming_low c declarations first n end more)

pub coming_descends : ComingDescends
coming_descends c declarations first at lists =
    coming_low c declarations first (length c.unit + 1) at lists

-- in the middle of a unit
all_mid : (P : Given → Type 0) (before after : List Given) (e : Given)
    → All P (before ++ e ∷ after) → P e
all_mid P [] after e h = All-head P e after h
all_mid P (x ∷ xs) after e h = all_mid P xs after e (All-tail P x (xs ++ e ∷ after) h)

rises_mid : (before after : List Given) (e : Given) → Rises (before ++ e ∷ after)
    → Rises (e ∷ after)
rises_mid [] after e h = h
rises_mid (x ∷ xs) after e h = rises_mid xs after e h.1

descends_mid : (most : ℕ) (before after : List Given) (e : Given)
    → Descends most (before ++ e ∷ after) → Descends (e.depth + 1) after
descends_mid most [] after e h = h.1
descends_mid most (x ∷ xs) after e h = descends_mid (x.depth + 1) xs after e h.1

apart_mid : (earlier before after : List Given) (e : Given) → All (λ (p : Given). p.at ≢ e.at)
    earlier → Rises (before ++ e ∷ after) → All (λ (p : Given). p.at ≢ e.at) (onto earlier before)
apart_mid earlier [] after e all h = all
apart_mid earlier (x ∷ xs) after e all h =
    let lt : x.at < e.at = all_mid (λ (later : Given). x.at < later.at) xs after e h.0 in
    apart_mid (x ∷ earlier) xs after e (All-cons (λ (p : Given). p.at ≢ e.at) x earlier
    (λ (p : x.at ≡ e.at). omega (arith, p, lt)) all) h.1

pub unit_children_are : UnitChildrenHaveParent
unit_children_are file unit declarations before e after is =
    let rise : Rises (before ++ e ∷ after) =
    subst Rises is (entries_placed file unit declarations).0 in
    let low : Descends 0 (before ++ e ∷ after) = subst (Descends 0) is
    (coming_descends (within_of file unit) declarations unit.first unit.first 0) in
    children_are (onto [] before) e after (apart_mid [] before after e (All-nil (λ (p : Given).
    p.at ≢ e.at)) rise) (rises_mid before after e rise) (descends_mid 0 before after e low)
