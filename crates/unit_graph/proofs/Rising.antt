-- The places of the nodes of units that stand apart rise.
use Rattle.std.proofs.Common.{◌≡◌, ◌+◌, ◌-◌, ◌<◌, ◌≤◌, ◌⊎◌, inl, inr, ◌++◌, ◌∷◌, [], ℕ, zero, suc}
use Rattle.std.proofs.Common.{Bool, true, false, List, Option, None, Some, Result, Ok, Err, length}
use Rattle.std.proofs.Common.{get_or, refl, sym, ap, subst, ◌∙◌, arith, ⊎_elim}
use Rattle.std.specs.List.{slice_get}
use Rattle.std.specs.Option.{option_map}
use Rattle.std.proofs.lemmas.Bool.{cases_lt}
use Rattle.std.proofs.lemmas.Option.{slice_get_within, slice_get-map, get_or_from_slice_get}
use Rattle.std.proofs.lemmas.Option.{none-some, same_Some}
use Rattle.type_attributes.specs.declared.source.SourceType.{SourceType}
use Rattle.type_attributes.specs.declared.source.UnitTypes.{UnitTypes}
use Rattle.type_attributes.specs.declared.fault.TypeFault.{TypeFault}
use Rattle.c_types.specs.Types.{types_of_unit_of}
use Rattle.c_types.specs.Laws.{TypesRise}
use Rattle.type_attributes.specs.Ordered.{AreInOrder, LieIn}
use Rattle.unit_graph.specs.Sources.{FileUnit, Source, UnitRefusal, source_of, made_sources}
use Rattle.unit_graph.specs.Sources.{index_sources, sources_of, gathered}
use Rattle.unit_graph.specs.Pieces.{Read, behind, read_before, reads, glued, glue, sources_from}
use Rattle.unit_graph.specs.Apart.{AreApart}
use Rattle.unit_graph.specs.Numbers.{PlacesRise}
use Rattle.unit_graph.proofs.Halves.{gathered_glue, glued_all}
use Rattle.unit_graph.proofs.Lists.{get-left, get-right, get-one}

-- ---- one unit

-- a node with an entry is of a type
record IsOfType (file : ℕ) (ts : List SourceType) (s : Source) (k a : ℕ) : Type 0 where
  type : SourceType
  there : slice_get ts k ≡ Some type
  at : type.at ≡ a
  from : s.file ≡ file

of_made : (file i : ℕ) (ts : List SourceType) (k a : ℕ) (s : Source)
    → slice_get (made_sources file i ts) k ≡ Some s → s.at ≡ Some a → IsOfType file ts s k a
of_made file i ts k a s e ea =
    by (slice_get ts k) refl (sym (slice_get-map (source_of file i) ts k) ∙ e)
  where
    by : (o : Option SourceType) → slice_get ts k ≡ o → option_map (source_of file i) o ≡ Some s
        → IsOfType file ts s k a
    by None is e = absurd (none-some s e)
    by (Some t) is e =
        let same : source_of file i t ≡ s = same_Some (source_of file i t) s e in
        record {
          type = t;
          there = is;
          at = same_Some t.at a (ap (λ (x : Source). x.at) same ∙ ea);
          from = ap (λ (x : Source). x.file) (sym same);
        }

no_index : {P : Type 0} (file i m a : ℕ) (has : Bool) (s : Source)
    → slice_get (index_sources file i has) m ≡ Some s → s.at ≡ Some a → P
no_index file i m a true s e ea = absurd (none-some a (ap (λ (x : Source). x.at)
    (get-one (record { file = file; at = None; index = i; label = _; targets = [] }) s m e).1 ∙ ea))
no_index file i m a false s e ea = absurd (none-some s e)

of_unit : (file n : ℕ) (t : UnitTypes) (k a : ℕ) (s : Source)
    → slice_get (sources_of file n t) k ≡ Some s → s.at ≡ Some a → IsOfType file t.types s k a
of_unit file n t k a s e ea =
    let i = n + length t.types in
    let made = made_sources file i t.types in
    ⊎_elim
    (λ lt. of_made file i t.types k a s
    (sym (get-left made (index_sources file i t.has_array) k lt) ∙ e) ea)
    (λ ge. no_index file i (k - length made) a t.has_array s (sym (get-right made
    (index_sources file i t.has_array) k (k - length made) (omega arith)) ∙ e) ea)
    (cases_lt k (length made))

order_at : (ts : List SourceType) (i j : ℕ) (x y : SourceType) → AreInOrder ts → i < j
    → slice_get ts i ≡ Some x → slice_get ts j ≡ Some y → x.at < y.at
order_at [] i j x y o lt ex ey = absurd (none-some x ex)
order_at (t ∷ ts) zero zero x y o lt ex ey = absurd (omega arith)
order_at (t ∷ ts) zero (suc j) x y o lt ex ey =
    let is : t ≡ x = same_Some t x ex in
    let later : t.at < (get_or ts j y).at = o.0 j y (slice_get_within ts j y ey) in
    let same : get_or ts j y ≡ y = get_or_from_slice_get ts j y y ey in
    subst (λ (z : SourceType). z.at < y.at) is (subst (λ (z : SourceType). t.at < z.at) same later)
order_at (t ∷ ts) (suc i) zero x y o lt ex ey = absurd (omega arith)
order_at (t ∷ ts) (suc i) (suc j) x y o lt ex ey = order_at ts i j x y o.1 (omega arith) ex ey

lies_at : (from end : ℕ) (ts : List SourceType) (k : ℕ) (x : SourceType) → LieIn from end ts
    → slice_get ts k ≡ Some x → (from ≤ x.at) × (x.at < end)
lies_at from end ts k x l e = subst (λ (z : SourceType). (from ≤ z.at) × (z.at < end))
    (get_or_from_slice_get ts k x x e) (l k x (slice_get_within ts k x e))

-- ---- all units

-- a place is not before another
abbrev NotBefore : ℕ → ℕ → ℕ → ℕ → Type 0
NotBefore file at f a = (file < f) ⊎ ((file ≡ f) × (at ≤ a))

-- nodes with rising places, none of which is before one place
record IsAbove (file at : ℕ) (ss : List Source) : Type 0 where
  above : (k a : ℕ) (s : Source) → slice_get ss k ≡ Some s → s.at ≡ Some a
      → NotBefore file at s.file a

apart_tail : (u : FileUnit) (us : List FileUnit) → AreApart (u ∷ us) → AreApart us
apart_tail u us apart i v w ev ew = let e : suc i + 1 ≡ suc (i + 1) = omega arith in
    apart (suc i) v w ev (ap (slice_get (u ∷ us)) e ∙ ew)

-- where the next unit begins
abbrev Starts : ℕ → ℕ → List FileUnit → Type 0
Starts file at us = (v : FileUnit) → slice_get us 0 ≡ Some v → NotBefore file at v.file v.unit.first

further : (file at f a b : ℕ) → NotBefore file at f a → a ≤ b → NotBefore file at f b
further file at f a b p le = ⊎_elim (λ lt. inl lt) (λ q. let x = q.1 in inr (q.0, omega arith)) p

over : (file at f a g b : ℕ) → NotBefore file at f a → (f < g) ⊎ ((f ≡ g) × (a ≤ b))
    → NotBefore file at g b
over file at f a g b p q =
    ⊎_elim
    (λ lt. ⊎_elim (λ m. inl (omega arith)) (λ m. let e = m.0 in inl (omega arith)) q)
    (λ r. let e = r.0 in let l = r.1 in ⊎_elim (λ m. inl (omega arith)) (λ m. let e2 = m.0 in
    let l2 = m.1 in inr (omega arith, omega arith)) q)
    p

record IsRisen (file at : ℕ) (ss : List Source) : Type 0 where
  rise : PlacesRise ss
  above : (k a : ℕ) (s : Source) → slice_get ss k ≡ Some s → s.at ≡ Some a
      → NotBefore file at s.file a

none_risen : (file at : ℕ) → IsRisen file at []
none_risen file at = record {
  rise = λ i j s t a b lt es et ea eb. absurd (none-some s es);
  above = λ k a s e ea. absurd (none-some s e);
}

no_more : (m k : ℕ) (qs : List Read) → reads k [] ≡ Ok qs → sources_from m qs ≡ []
unfolding reads sources_from
no_more m k [] e = refl
no_more m k (q ∷ qs) e = cc

module _ (rises : TypesRise) where
  one_unit : (file at n : ℕ) (u : FileUnit) (us : List FileUnit) (t : UnitTypes)
      (rest : List Source) → types_of_unit_of u.bytes u.unit ≡ Ok t → AreApart (u ∷ us)
      → NotBefore file at u.file u.unit.first
      → ((f b : ℕ) → Starts f b us → IsRisen f b rest) → (us ≡ [] → rest ≡ [])
      → IsRisen file at (sources_of u.file n t ++ rest)
  one_unit file at n u us t rest read apart start ih ends =
      let own = sources_of u.file n t in
      let law = rises u.bytes u.unit t read in
      let order = law.0 in
      let lie = law.1 in
      let tail : IsRisen u.file u.unit.end rest = behind_it us refl in
      record {
        rise = λ i j s x a b lt es ex ea eb.
            ⊎_elim
            (λ lj.
            let li : i < length own = omega arith in
            let si = of_unit u.file n t i a s (sym (get-left own rest i li) ∙ es) ea in
            let sj = of_unit u.file n t j b x (sym (get-left own rest j lj) ∙ ex) eb in
            let up : si.type.at < sj.type.at =
            order_at t.types i j si.type sj.type order lt si.there sj.there in
            let x1 = si.at in
            let x2 = sj.at in
            inr (si.from ∙ sym sj.from, omega arith))
            (λ gj.
            let ej : slice_get rest (j - length own) ≡ Some x =
            sym (get-right own rest j (j - length own) (omega arith)) ∙ ex in
            ⊎_elim
            (λ li.
            let si = of_unit u.file n t i a s (sym (get-left own rest i li) ∙ es) ea in
            let within = (lies_at u.unit.first u.unit.end t.types i si.type lie si.there).1 in
            let x1 = si.at in
            let x2 = si.from in
            ⊎_elim (λ m. inl (omega arith)) (λ m. let e1 = m.0 in let e2 = m.1 in
            inr (x2 ∙ e1, omega arith)) (tail.above (j - length own) b x ej eb))
            (λ gi.
            let ei : slice_get rest (i - length own) ≡ Some s =
            sym (get-right own rest i (i - length own) (omega arith)) ∙ es in
            tail.rise (i - length own) (j - length own) s x a b (omega arith) ei ej ea eb)
            (cases_lt i (length own)))
            (cases_lt j (length own));
        above = λ k a s e ea.
            ⊎_elim
            (λ lk.
            let si = of_unit u.file n t k a s (sym (get-left own rest k lk) ∙ e) ea in
            let from = (lies_at u.unit.first u.unit.end t.types k si.type lie si.there).0 in
            let x1 = si.at in
            subst (λ f. NotBefore file at f a) (sym si.from)
            (further file at u.file u.unit.first a start (omega arith)))
            (λ gk.
            let ek : slice_get rest (k - length own) ≡ Some s =
            sym (get-right own rest k (k - length own) (omega arith)) ∙ e in
            onward us refl k a s (k - length own) ek ea)
            (cases_lt k (length own));
      }
    where
      behind_it : (vs : List FileUnit) → us ≡ vs → IsRisen u.file u.unit.end rest
      behind_it [] e =
          subst (IsRisen u.file u.unit.end) (sym (ends e)) (none_risen u.file u.unit.end)
      behind_it (v ∷ vs) e = ih u.file u.unit.end (λ w ew.
          let here : slice_get (u ∷ us) 1 ≡ Some w = ew in
          (apart 0 u w refl here).before)

      onward : (vs : List FileUnit) → us ≡ vs → (k a : ℕ) (s : Source) (m : ℕ)
          → slice_get rest m ≡ Some s → s.at ≡ Some a → NotBefore file at s.file a
      onward [] e k a s m es ea =
          absurd (none-some s (sym (ap (λ (r : List Source). slice_get r m) (ends e)) ∙ es))
      onward (v ∷ vs) e k a s m es ea =
          let room : u.unit.first ≤ u.unit.end =
          (apart 0 u v refl (ap (λ (r : List FileUnit). slice_get r 0) e)).room in
          over file at u.file u.unit.end s.file a (further file at u.file u.unit.first u.unit.end
          start room) ((behind_it (v ∷ vs) e).above m a s es ea)

  read_risen : (file at n k : ℕ) (us : List FileUnit) (rs : List Read) → reads k us ≡ Ok rs
      → AreApart us → Starts file at us → IsRisen file at (sources_from n rs)
  unfolding reads sources_from
  read_risen file at n k [] rs e apart starts = subst
      (λ (x : List Read). IsRisen file at (sources_from n x)) (same [] rs e) (none_risen file at)
    where
      same : (a b : List Read) → ◌≡◌ {A = Result (List Read) UnitRefusal} (Ok a) (Ok b) → a ≡ b
      same a b e = cc
  read_risen file at n k (u ∷ us) rs e apart starts =
      by (types_of_unit_of u.bytes u.unit) refl e
      (λ m qs eq f b st. read_risen f b m (k + 1) us qs eq (apart_tail u us apart) st)
    where
      split : (a : List Read) (r : Read) (more : Result (List Read) UnitRefusal)
          → behind (r ∷ []) more ≡ Ok a → (qs : List Read) × (more ≡ Ok qs) × (r ∷ qs ≡ a)
      split a r (Err x) e = cc
      split a r (Ok qs) e = (qs, refl, let is : r ∷ qs ≡ a = cc in is)

      by : (r : Result UnitTypes TypeFault) → types_of_unit_of u.bytes u.unit ≡ r
          → read_before u.file k r (reads (k + 1) us) ≡ Ok rs
          → ((m : ℕ) (qs : List Read) → reads (k + 1) us ≡ Ok qs → (f b : ℕ) → Starts f b us
          → IsRisen f b (sources_from m qs)) → IsRisen file at (sources_from n rs)
      by (Err f) is e ih = cc
      by (Ok t) is e ih =
          let r : Read = record { file = u.file; found = t } in
          let s = split rs r (reads (k + 1) us) e in
          subst (λ (x : List Read). IsRisen file at (sources_from n x)) s.2
          (one_unit file at n u us t
          (sources_from (n + length (sources_of u.file n t)) s.0) is apart (starts u refl)
          (ih (n + length (sources_of u.file n t)) s.0 s.1)
          (λ none. no_more (n + length (sources_of u.file n t)) (k + 1) s.0
          (sym (ap (reads (k + 1)) none) ∙ s.1)))

  pub all_rise : (k n : ℕ) (us : List FileUnit) (rs : List Read) → reads k us ≡ Ok rs → AreApart us
      → PlacesRise (sources_from n rs)
  all_rise k n us rs e apart = (read_risen 0 0 n k us rs e apart (λ v ev. by v.file)).rise
    where
      by : (f : ℕ) → {a : ℕ} → NotBefore 0 0 f a
      by zero {a} = inr (refl, omega arith)
      by (suc f) {a} = inl (omega arith)

  pub gathered_rise : (units : List FileUnit) (all : List Source) → gathered 0 [] units ≡ Ok all
      → AreApart units → PlacesRise all
  gathered_rise units all e apart = by (reads 0 units) refl (sym (gathered_glue 0 [] units) ∙ e)
    where
      by : (r : Result (List Read) UnitRefusal) → reads 0 units ≡ r → glue [] r ≡ Ok all
          → PlacesRise all
      by (Err f) is g = cc
      by (Ok rs) is g =
          let same : glued [] rs ≡ all = cc in
          subst PlacesRise (sym (glued_all [] rs) ∙ same) (all_rise 0 0 units rs is apart)
