-- Rows of extents say what the entries say, and a search finds it.
use Rattle.std.proofs.Common.{◌≡◌, ℕ, zero, suc, ◌<◌, ◌≤◌, ◌==◌, nat_lt, Bool, true, false}
use Rattle.std.proofs.Common.{List, [], ◌∷◌, ◌++◌, All, length, get_or, None, if◌then◌else◌, refl}
use Rattle.std.proofs.Common.{sym, ap, ◌∙◌, subst, arith}
use Rattle.std.specs.List.Sorted.{IsNonDecreasingBy, IsPartitionPoint}
use Rattle.std.proofs.lemmas.Bool.{ltb-true, ltb-false, eqb-true, ne_eqb}
use Rattle.std.proofs.lemmas.List.Elements.{All-nil, All-cons, All-head, All-tail, All-append}
use Rattle.dwarf_forms.specs.Meanings.{Sections}
use Rattle.entry_tree.specs.Items.{Given}
use Rattle.entry_tree.specs.Rising.{Rises}
use Rattle.type_attributes.specs.declared.number.Number.{Number}
use Rattle.type_attributes.specs.declared.extents.Extent.{Extent}
use Rattle.type_attributes.specs.declared.extents.Extent.TheVariants.{Bytes, SameAs, Unknown}
use Rattle.type_attributes.specs.declared.extents.ExtentRow.{ExtentRow}
use Rattle.type_attributes.specs.Scopes.{Scope}
use Rattle.type_attributes.specs.Extents.{extent_of, extent_at, bytes_after, most_followed}
use Rattle.type_attributes.specs.Extents.{bytes_at}
use Rattle.type_attributes.specs.Rows.{row_if, rows_of, extent_in, SayExtents}

-- rows stand where entries do
one_placed : (P : ℕ → Type 0) (at : ℕ) (x : Extent) → P at
    → All (λ (r : ExtentRow). P r.at) (row_if at x)
one_placed P at Unknown p = All-nil (λ (r : ExtentRow). P r.at)
one_placed P at (Bytes n) p = All-cons (λ (r : ExtentRow). P r.at)
    (record { at = at; extent = Bytes n }) [] p (All-nil (λ (r : ExtentRow). P r.at))
one_placed P at (SameAs to) p = All-cons (λ (r : ExtentRow). P r.at)
    (record { at = at; extent = SameAs to }) [] p (All-nil (λ (r : ExtentRow). P r.at))

placed : (P : ℕ → Type 0) (c : Sections) (es : List Given) → All (λ (e : Given). P e.at) es
    → All (λ (r : ExtentRow). P r.at) (rows_of c es)
placed P c [] h = All-nil (λ (r : ExtentRow). P r.at)
placed P c (e ∷ es) h =
    All-append (λ (r : ExtentRow). P r.at) (row_if e.at (extent_of c e)) (rows_of c es)
    (one_placed P e.at (extent_of c e) (All-head (λ (g : Given). P g.at) e es h))
    (placed P c es (All-tail (λ (g : Given). P g.at) e es h))

-- they rise
all_at : (low : ℕ) (rows : List ExtentRow) (j : ℕ) (d : ExtentRow)
    → All (λ (r : ExtentRow). low < r.at) rows → j < length rows → low < (get_or rows j d).at
all_at low [] j d h lt = absurd (omega arith)
all_at low (r ∷ rows) zero d h lt = All-head (λ (r : ExtentRow). low < r.at) r rows h
all_at low (r ∷ rows) (suc j) d h lt =
    all_at low rows j d (All-tail (λ (r : ExtentRow). low < r.at) r rows h) (omega arith)

rising_cons : (r : ExtentRow) (rows : List ExtentRow) → All (λ (q : ExtentRow). r.at < q.at) rows
    → IsNonDecreasingBy (λ (q : ExtentRow). q.at) rows
    → IsNonDecreasingBy (λ (q : ExtentRow). q.at) (r ∷ rows)
rising_cons r rows all h zero zero d le lt = omega arith
rising_cons r rows all h zero (suc j) d le lt = let b : r.at < (get_or rows j d).at =
    all_at r.at rows j d all (omega arith) in omega (arith, b)
rising_cons r rows all h (suc i) zero d le lt = absurd (omega arith)
rising_cons r rows all h (suc i) (suc j) d le lt = h i j d (omega arith) (omega arith)

rising_one : (at : ℕ) (x : Extent) (rows : List ExtentRow) → All (λ (q : ExtentRow). at < q.at) rows
    → IsNonDecreasingBy (λ (q : ExtentRow). q.at) rows
    → IsNonDecreasingBy (λ (q : ExtentRow). q.at) (row_if at x ++ rows)
rising_one at Unknown rows all h = h
rising_one at (Bytes n) rows all h = rising_cons (record { at = at; extent = Bytes n }) rows all h
rising_one at (SameAs to) rows all h =
    rising_cons (record { at = at; extent = SameAs to }) rows all h

rows_rise : (c : Sections) (es : List Given) → Rises es
    → IsNonDecreasingBy (λ (q : ExtentRow). q.at) (rows_of c es)
rows_rise c [] h = λ i j d le lt. absurd (omega arith)
rows_rise c (e ∷ es) h = rising_one e.at (extent_of c e) (rows_of c es)
    (placed (λ (n : ℕ). e.at < n) c es h.0) (rows_rise c es h.1)

-- and say what the entries say
none_by_places : (rows : List ExtentRow) (at : ℕ) → All (λ (r : ExtentRow). at < r.at) rows
    → extent_in rows at ≡ Unknown
none_by_places [] at h = refl
none_by_places (r ∷ rows) at h =
    let lt : at < r.at = All-head (λ (q : ExtentRow). at < q.at) r rows h in
    let away : (r.at == at) ≡ false = ne_eqb r.at at (λ (e : r.at ≡ at). omega (arith, lt, e)) in
    rw away (none_by_places rows at (All-tail (λ (q : ExtentRow). at < q.at) r rows h))

one_says : (k : ℕ) (x : Extent) (rows : List ExtentRow) (at : ℕ) (t : Bool) → (k == at) ≡ t
    → (t ≡ true → extent_in rows at ≡ Unknown)
    → extent_in (row_if k x ++ rows) at ≡ (if t then x else extent_in rows at)
one_says k Unknown rows at true e none = none refl
one_says k Unknown rows at false e none = refl
one_says k (Bytes n) rows at t e none = rw e refl
one_says k (SameAs to) rows at t e none = rw e refl

rows_say : (c : Sections) (es : List Given) (at : ℕ) → Rises es
    → extent_in (rows_of c es) at ≡ extent_at c es at
rows_say c [] at h = refl
rows_say c (e ∷ es) at h =
    let none : (e.at == at) ≡ true → extent_in (rows_of c es) at ≡ Unknown =
    λ (t : (e.at == at) ≡ true).
    subst (λ (n : ℕ). extent_in (rows_of c es) n ≡ Unknown) (eqb-true e.at at t)
    (none_by_places (rows_of c es) e.at (placed (λ (n : ℕ). e.at < n) c es h.0)) in
    one_says e.at (extent_of c e) (rows_of c es) at (e.at == at) refl none
    ∙ ap (λ (x : Extent). if e.at == at then extent_of c e else x) (rows_say c es at h.1)

pub known : (s : Scope) (rows : List ExtentRow) → rows ≡ rows_of s.sections s.entries
    → Rises s.entries → SayExtents s rows
known s rows is rise =
    subst (SayExtents s) (sym is) (record {
      rising = rows_rise s.sections s.entries rise;
      says = λ (at : ℕ). rows_say s.sections s.entries at rise;
    })

-- a search
here_in : (rows : List ExtentRow) (k at : ℕ) (d : ExtentRow) → k < length rows
    → ((j : ℕ) → j < k → (get_or rows j d).at < at) → (get_or rows k d).at ≡ at
    → extent_in rows at ≡ (get_or rows k d).extent
here_in [] k at d lt before here = absurd (omega arith)
here_in (r ∷ rows) zero at d lt before here =
    rw here (let same : (at == at) ≡ true = grind arith in rw same refl)
here_in (r ∷ rows) (suc k) at d lt before here =
    let low : r.at < at = before 0 (omega arith) in
    let away : (r.at == at) ≡ false = ne_eqb r.at at (λ (e : r.at ≡ at). omega (arith, low, e)) in
    rw away (here_in rows k at d (omega arith)
    (λ (j : ℕ) (l : j < k). before (suc j) (omega arith)) here)

none_in : (rows : List ExtentRow) (at : ℕ) (d : ExtentRow) → ((j : ℕ) → j < length rows
    → ((get_or rows j d).at == at) ≡ false) → extent_in rows at ≡ Unknown
none_in [] at d away = refl
none_in (r ∷ rows) at d away = let here : (r.at == at) ≡ false = away 0 (omega arith) in
    rw here (none_in rows at d (λ (j : ℕ) (l : j < length rows). away (suc j) (omega arith)))

abbrev pub EndsAt : ℕ → List ExtentRow → ℕ → Type 0
EndsAt to rows end = IsPartitionPoint (λ (r : ExtentRow). nat_lt r.at to ≡ true)
    (λ (r : ExtentRow). nat_lt r.at to ≡ false) rows end

pub found_there : (rows : List ExtentRow) (k to : ℕ) (d : ExtentRow) → EndsAt to rows k
    → k < length rows → (get_or rows k d).at ≡ to → (get_or rows k d).extent ≡ extent_in rows to
found_there rows k to d ends lt here = sym (here_in rows k to d lt
    (λ (j : ℕ) (l : j < k). ltb-true (get_or rows j d).at to (ends.0 j d (omega arith) l)) here)

other_place : (a to : ℕ) (t : Bool) → (a == to) ≡ t → (a ≡ to → ⊥) → t ≡ false
other_place a to false e away = refl
other_place a to true e away = absurd (away (eqb-true a to e))

away_at : (rows : List ExtentRow) (k to j : ℕ) (d : ExtentRow) (t : Bool) → nat_lt j k ≡ t
    → IsNonDecreasingBy (λ (r : ExtentRow). r.at) rows → EndsAt to rows k → (k < length rows
    → (get_or rows k d).at ≡ to → ⊥) → j < length rows → ((get_or rows j d).at == to) ≡ false
away_at rows k to j d true e rise ends away lt =
    let low : (get_or rows j d).at < to =
    ltb-true (get_or rows j d).at to (ends.0 j d (omega arith) (ltb-true j k e)) in
    other_place (get_or rows j d).at to _ refl
    (λ (p : (get_or rows j d).at ≡ to). omega (arith, low, p))
away_at rows k to j d false e rise ends away lt =
    let le : k ≤ j = ltb-false j k e in
    let up : (get_or rows k d).at ≤ (get_or rows j d).at = rise k j d le lt in
    let high : to ≤ (get_or rows k d).at =
    ltb-false (get_or rows k d).at to (ends.1 k d (omega arith) (omega (arith, le, lt))) in
    other_place (get_or rows j d).at to _ refl (λ (p : (get_or rows j d).at ≡ to).
    away (omega (arith, le, lt)) (omega (arith, up, high, p)))

pub found_nowhere : (rows : List ExtentRow) (k to : ℕ) (d : ExtentRow)
    → IsNonDecreasingBy (λ (r : ExtentRow). r.at) rows → EndsAt to rows k
    → (k < length rows → (get_or rows k d).at ≡ to → ⊥) → Unknown ≡ extent_in rows to
found_nowhere rows k to d rise ends away = sym (none_in rows to d
    (λ (j : ℕ) (lt : j < length rows). away_at rows k to j d (nat_lt j k) refl rise ends away lt))

-- one type is followed after the other
pub followed : (says : ℕ → Extent) (n m at : ℕ) (x : Extent) → n ≡ suc m → x ≡ SameAs at
    → bytes_after says n x ≡ bytes_after says m (says at)
followed says n m at x e is = rw (e, is) refl

pub unfound : (says : ℕ → Extent) (n : ℕ) (x : Extent) → n ≡ 0 → ((b : Number) → x ≡ Bytes b → ⊥)
    → bytes_after says n x ≡ None
unfound says n (Bytes b) e away = absurd (away b refl)
unfound says n Unknown e away = refl
unfound says n (SameAs at) e away = rw e refl

pub bytes_found : (s : Scope) (rows : List ExtentRow) (at : ℕ) → SayExtents s rows
    → bytes_after (extent_in rows) most_followed (extent_in rows at) ≡ bytes_at s at
bytes_found s rows at h =
    let same : extent_in rows ≡ extent_at s.sections s.entries = λ i. λ to. h.says to i in
    ap (λ (says : ℕ → Extent). bytes_after says most_followed (says at)) same
