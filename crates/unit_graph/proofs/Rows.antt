-- Rows of places: how a stable sort keeps the number at a place, and where a search of ordered rows
-- ends.
use Rattle.std.proofs.Common.{◌≡◌, ℕ, zero, suc, ◌-◌, ◌<◌, ◌≤◌, ◌==◌, ◌&&◌, not, Bool, true, false}
use Rattle.std.proofs.Common.{List, [], ◌∷◌, length, get_or, cond, nat_lt, None, Some, refl}
use Rattle.std.proofs.Common.{sym, ap, ◌∙◌, arith}
use Rattle.std.specs.Ordering.{nat_cmp, ordering_then, is_lt}
use Rattle.std.specs.declared.cmp.Ordering.{Ordering}
use Rattle.std.specs.Cmp.{IsStrictWeakOrder}
use Rattle.std.specs.List.{filter}
use Rattle.std.specs.List.Sorted.{IsSortedByKey, IsStableByKey, IsPartitionPoint, IsPartitionedBy}
use Rattle.std.specs.List.Sorted.{ties}
use Rattle.std.proofs.lemmas.Bool.{ltb-true, ltb-false}
use Rattle.std.proofs.lemmas.Bool.Decides.{nat_tests}
use Rattle.std.proofs.lemmas.Cmp.{nat_cmp_total, on_total, then_total}
use Rattle.std.proofs.lemmas.List.Elements.{filter_agree}
use Rattle.std.proofs.lemmas.List.Sorted.{ranks_by, sorted_far}
use Rattle.unit_graph.proofs.Numbering.{not_here}
use Rattle.unit_graph.specs.declared.places.NodePlace.{NodePlace}
use Rattle.unit_graph.specs.Links.{or_here}
use Rattle.unit_graph.specs.Numbers.{row_is_at, row_is_up_to, number_in, IsNotAfter, IsInOrder}

-- the tests of a row as facts
at_file : (p : ℕ × ℕ) (r : NodePlace) → row_is_at p r ≡ true → r.file ≡ p.0
at_file p r e = grind (arith, nat_tests)

at_offset : (p : ℕ × ℕ) (r : NodePlace) → row_is_at p r ≡ true → r.at ≡ p.1
at_offset p r e = grind (arith, nat_tests)

is_there : (p : ℕ × ℕ) (r : NodePlace) → r.file ≡ p.0 → r.at ≡ p.1 → row_is_at p r ≡ true
is_there p r f a = grind (arith, nat_tests)

not_there : (p : ℕ × ℕ) (r : NodePlace) (t : Bool) → row_is_at p r ≡ t
    → (r.file ≡ p.0 → r.at ≡ p.1 → false ≡ true) → t ≡ false
not_there p r false e away = refl
not_there p r true e away = sym (away (at_file p r e) (at_offset p r e))

up_file : (p : ℕ × ℕ) (r : NodePlace) → row_is_up_to p r ≡ true → r.file ≤ p.0
up_file p r e = grind (arith, nat_tests)

up_offset : (p : ℕ × ℕ) (r : NodePlace) → row_is_up_to p r ≡ true → r.file ≡ p.0 → r.at ≤ p.1
up_offset p r e f = grind (arith, nat_tests)

is_up : (p : ℕ × ℕ) (r : NodePlace) → r.file ≤ p.0 → (r.file ≡ p.0 → r.at ≤ p.1)
    → row_is_up_to p r ≡ true
is_up p r f a = grind (arith, nat_tests)

-- the number of the last row
none_in : (p : ℕ × ℕ) (rows : List NodePlace) (d : NodePlace)
    → ((k : ℕ) → k < length rows → row_is_at p (get_or rows k d) ≡ false) → number_in p rows ≡ None
none_in p [] d away = refl
none_in p (r ∷ rows) d away =
    ap (or_here r.number (row_is_at p r)) (none_in p rows d (λ (k : ℕ) (lt : k < length rows). away
    (suc k) (omega arith))) ∙ ap (λ (t : Bool). or_here r.number t None) (away 0 (omega arith))

last_in : (p : ℕ × ℕ) (rows : List NodePlace) (i : ℕ) (d : NodePlace) → i < length rows
    → row_is_at p (get_or rows i d) ≡ true → ((k : ℕ) → i < k → k < length rows
    → row_is_at p (get_or rows k d) ≡ false) → number_in p rows ≡ Some (get_or rows i d).number
last_in p [] i d lt here away = absurd (omega arith)
last_in p (r ∷ rows) zero d lt here away =
    ap (or_here r.number (row_is_at p r)) (none_in p rows d (λ (k : ℕ) (l : k < length rows).
    away (suc k) (omega arith) (omega arith))) ∙ ap (λ (t : Bool). or_here r.number t None) here
last_in p (r ∷ rows) (suc i) d lt here away =
    ap (or_here r.number (row_is_at p r)) (last_in p rows i d (omega arith) here
    (λ (k : ℕ) (a : i < k) (l : k < length rows). away (suc k) (omega arith) (omega arith)))

-- a stable sort by place keeps it
abbrev pub place : NodePlace → ℕ × ℕ
place r = (r.file, r.at)

abbrev pub place_cmp : ℕ × ℕ → ℕ × ℕ → Ordering
place_cmp x y = ordering_then (nat_cmp x.0 y.0) (nat_cmp x.1 y.1)

tie : (a b c d : ℕ) → (not (is_lt (ordering_then (nat_cmp a c) (nat_cmp b d)))
    && not (is_lt (ordering_then (nat_cmp c a) (nat_cmp d b)))) ≡ (c == a && d == b)
tie a b c d = grind (arith, nat_tests)

kept_one : (p : ℕ × ℕ) (r : NodePlace) (rest kept : List NodePlace) (t : Bool) → row_is_at p r ≡ t
    → number_in p rest ≡ number_in p kept
    → or_here r.number t (number_in p rest) ≡ number_in p (cond t (r ∷ kept) kept)
kept_one p r rest kept true e h =
    ap (or_here r.number true) h ∙ ap (λ (t : Bool). or_here r.number t (number_in p kept)) (sym e)
kept_one p r rest kept false e h = not_here r.number (number_in p rest) ∙ h

of_filter : (p : ℕ × ℕ) (rows : List NodePlace)
    → number_in p rows ≡ number_in p (filter (row_is_at p) rows)
of_filter p [] = refl
of_filter p (r ∷ rows) =
    kept_one p r rows (filter (row_is_at p) rows) (row_is_at p r) refl (of_filter p rows)

pub kept_by_sort : (old new : List NodePlace) → IsStableByKey place place_cmp old new → (p : ℕ × ℕ)
    → number_in p new ≡ number_in p old
kept_by_sort old new stable p =
    let x : NodePlace = record { file = p.0; number = 0; at = p.1 } in
    let same : (y : NodePlace) → ties
    (λ (a b : NodePlace). is_lt (place_cmp (place a) (place b))) x y
    ≡ row_is_at p y = λ (y : NodePlace). tie p.0 p.1 y.file y.at in
    of_filter p new
    ∙ ap (number_in p) (sym (filter_agree (ties (λ (a b : NodePlace).
    is_lt (place_cmp (place a) (place b))) x) (row_is_at p) same new) ∙ stable x ∙ filter_agree
    (ties (λ (a b : NodePlace). is_lt (place_cmp (place a) (place b))) x) (row_is_at p) same old)
    ∙ sym (of_filter p old)

file_up : (a b c d : ℕ) → is_lt (ordering_then (nat_cmp c a) (nat_cmp d b)) ≡ false → a ≤ c
file_up a b c d e = grind (arith, nat_tests)

offset_up : (a b c d : ℕ) → is_lt (ordering_then (nat_cmp c a) (nat_cmp d b)) ≡ false
    → a ≡ c → b ≤ d
offset_up a b c d e f = grind (arith, nat_tests)

weak : IsStrictWeakOrder (λ (x y : NodePlace). is_lt (place_cmp (place x) (place y)))
weak = ranks_by (then_total (on_total (λ (p : ℕ × ℕ). p.0) nat_cmp_total)
    (on_total (λ (p : ℕ × ℕ). p.1) nat_cmp_total)) place

pub ordered_by_sort : (rows : List NodePlace) → IsSortedByKey place place_cmp rows → IsInOrder rows
ordered_by_sort rows sorted i j d le lt =
    let x = get_or rows i d in
    let y = get_or rows j d in
    let far : is_lt (place_cmp (place y) (place x)) ≡ false = sorted_far
    (λ (x y : NodePlace). is_lt (place_cmp (place x) (place y))) weak rows sorted i j d le lt in
    record {
      file = file_up x.file x.at y.file y.at far;
      at = offset_up x.file x.at y.file y.at far;
    }

-- ordered rows
behind : (p : ℕ × ℕ) (x y z : NodePlace) → IsNotAfter x y → IsNotAfter y z → row_is_at p x ≡ true
    → row_is_at p y ≡ false → row_is_at p z ≡ false
behind p x y z a b here next =
    not_there p z (row_is_at p z) refl
    (λ (f : z.file ≡ p.0) (g : z.at ≡ p.1).
    let xf = at_file p x here in
    let xa = at_offset p x here in
    let af = a.file in
    let bf = b.file in
    let yf : y.file ≡ p.0 = omega (arith, xf, af, bf) in
    let ya : y.at ≡ p.1 = omega (arith, xa, a.at (omega (arith, xf)), b.at (omega arith)) in
    sym next ∙ is_there p y yf ya)

pub found : (p : ℕ × ℕ) (rows : List NodePlace) (end : ℕ) (d : NodePlace) → IsInOrder rows → 0 < end
    → end ≤ length rows → row_is_at p (get_or rows (end - 1) d) ≡ true
    → (end < length rows → row_is_at p (get_or rows end d) ≡ false)
    → number_in p rows ≡ Some (get_or rows (end - 1) d).number
found p rows end d order pos le here next =
    last_in p rows (end - 1) d (omega arith) here
    (λ (k : ℕ) (a : end - 1 < k) (l : k < length rows).
    behind p (get_or rows (end - 1) d) (get_or rows end d) (get_or rows k d) (order (end - 1) end d
    (omega arith) (omega arith)) (order end k d (omega arith) l) here (next (omega arith)))

-- what a search says of the rows before its end and behind
abbrev pub EndsAt : ℕ × ℕ → List NodePlace → ℕ → Type 0
EndsAt p rows end =
    IsPartitionPoint (λ r. row_is_up_to p r ≡ true) (λ r. row_is_up_to p r ≡ false) rows end

before : (p : ℕ × ℕ) (x y : NodePlace) → IsNotAfter x y → row_is_up_to p y ≡ true
    → row_is_at p y ≡ false
    → row_is_at p x ≡ false
before p x y a up away =
    not_there p x (row_is_at p x) refl
    (λ (f : x.file ≡ p.0) (g : x.at ≡ p.1).
    let uf = up_file p y up in
    let af = a.file in
    let yf : y.file ≡ p.0 = omega (arith, uf, af) in
    let ya : y.at ≡ p.1 = omega (arith, up_offset p y up yf, a.at (omega (arith, yf))) in
    sym away ∙ is_there p y yf ya)

past : (p : ℕ × ℕ) (x : NodePlace) → row_is_up_to p x ≡ false → row_is_at p x ≡ false
past p x away =
    not_there p x (row_is_at p x) refl (λ (f : x.file ≡ p.0) (g : x.at ≡ p.1). sym away
    ∙ is_up p x (omega (arith, f)) (λ (h : x.file ≡ p.0). omega (arith, g)))

none_at : (p : ℕ × ℕ) (rows : List NodePlace) (end k : ℕ) (d : NodePlace) (t : Bool)
    → nat_lt k end ≡ t
    → IsInOrder rows → EndsAt p rows end → end ≤ length rows → (0 < end → row_is_at p
    (get_or rows (end - 1) d) ≡ false) → k < length rows → row_is_at p (get_or rows k d) ≡ false
none_at p rows end k d true e order ends le away l =
    let lt : k < end = ltb-true k end e in
    before p (get_or rows k d) (get_or rows (end - 1) d) (order k (end - 1) d (omega arith)
    (omega arith)) (ends.0 (end - 1) d (omega arith) (omega arith)) (away (omega arith))
none_at p rows end k d false e order ends le away l =
    let ge : end ≤ k = ltb-false k end e in
    past p (get_or rows k d) (ends.1 k d ge l)

pub nowhere : (p : ℕ × ℕ) (rows : List NodePlace) (end : ℕ) (d : NodePlace) → IsInOrder rows
    → EndsAt p rows end
    → end ≤ length rows → (0 < end → row_is_at p (get_or rows (end - 1) d) ≡ false)
    → number_in p rows ≡ None
nowhere p rows end d order ends le away = none_in p rows d (λ (k : ℕ) (l : k < length rows).
    none_at p rows end k d (nat_lt k end) refl order ends le away l)

-- rows in order are parted by a place
pub parted : (p : ℕ × ℕ) (rows : List NodePlace) → IsInOrder rows
    → IsPartitionedBy (row_is_up_to p) rows
parted p rows order i j d le lt up =
    let x = get_or rows i d in
    let y = get_or rows j d in
    let o = order i j d le lt in
    let uf = up_file p y up in
    let of = o.file in
    is_up p x (omega (arith, uf, of)) (λ (h : x.file ≡ p.0).
    omega (arith, up_offset p y up (omega (arith, h, uf, of)), o.at (omega (arith, h, uf, of))))
