-- Units that follow one another, as a counted loop reads them.
use Rattle.std.proofs.Common.{◌≡◌, ℕ, zero, suc, ◌+◌, ◌-◌, ◌<◌, ◌≤◌, nat_le, Bool, true, false}
use Rattle.std.proofs.Common.{List, [], ◌∷◌, ◌++◌, length, Result, Ok, Err, IfOk, All, refl, sym}
use Rattle.std.proofs.Common.{ap, subst, ◌∙◌, append_assoc, arith}
use Rattle.std.proofs.lemmas.Bool.{le-leb, lt-leb, leb-true, leb-false}
use Rattle.std.proofs.lemmas.List.{append-nil}
use Rattle.std.proofs.lemmas.List.Elements.{All-from_recursion}
use Rattle.std.specs.List.{AllByRecursion as ByRecursion}
use Rattle.dw_base.specs.declared.numbers.Order.{Order}
use Rattle.entry_tree.specs.Units.{◌>>=◌, unit_at, units_from, units_of, appended, Follow}
use Rattle.entry_tree.specs.Units.{IsRefused, Gives, Reads}
use Rattle.entry_tree.specs.declared.unit.Unit.{Unit}
use Rattle.entry_tree.specs.declared.unit.UnitFault.{UnitFault}
use Rattle.entry_tree.specs.declared.unit.UnitFault.TheVariants.{UnitLength, UnitVersion, UnitType}
use Rattle.entry_tree.specs.declared.unit.UnitFault.TheVariants.{AddressSize, Memory}
use Rattle.entry_tree.proofs.Extents.{unit_within}

module _ (info : List ℕ) (order : Order) where
  none_left : (n at : ℕ) → length info ≤ at → units_from info order n at ≡ Ok []
  unfolding units_from
  none_left zero at le = refl
  none_left (suc n) at le = rw (le-leb (length info) at le) refl

  one_left : (n at : ℕ) → at < length info → units_from info order (suc n) at ≡ (unit_at info order
      at >>= λ (u : Unit). units_from info order n u.end >>= λ (us : List Unit). Ok (u ∷ us))
  unfolding units_from
  one_left n at lt = rw (lt-leb (length info) at lt) refl

  same_list : (r : Result (List Unit) UnitFault) → appended [] r ≡ r
  same_list (Ok us) = refl
  same_list (Err f) = refl

  pub begins : appended [] (units_from info order (length info - 0) 0) ≡ units_of info order
  unfolding units_of
  begins = let k : length info - 0 ≡ length info = omega arith in
      rw k (same_list (units_from info order (length info) 0))

  pub ends : (n at : ℕ) (seen : List Unit) → length info ≤ at → appended seen
      (units_from info order n at) ≡ units_of info order → units_of info order ≡ Ok seen
  ends n at seen le so_far =
      sym so_far ∙ rw (none_left n at le) (ap (λ (us : List Unit). Ok us) (append-nil seen))

  pub fails : (n i at : ℕ) (seen : List Unit) (f : UnitFault) → i < n → at < length info
      → Err f ≡ unit_at info order at → appended seen (units_from info order (n - i) at)
      ≡ units_of info order → units_of info order ≡ Err f
  fails n i at seen f lt within h so_far =
      let k : n - i ≡ suc (n - (i + 1)) = omega arith in
      sym so_far ∙ rw (k, one_left (n - (i + 1)) at within, ← h) refl

  pushed : (seen : List Unit) (u : Unit) (r : Result (List Unit) UnitFault)
      → appended seen (r >>= λ (us : List Unit). Ok (u ∷ us)) ≡ appended (seen ++ u ∷ []) r
  pushed seen u (Ok us) = ap (λ (vs : List Unit). Ok vs) (sym (append_assoc seen (u ∷ []) us))
  pushed seen u (Err f) = refl

  pub goes_on : (n i at : ℕ) (seen : List Unit) (u : Unit) → i < n → at < length info
      → Ok u ≡ unit_at info order at
      → appended seen (units_from info order (n - i) at) ≡ units_of info order
      → appended (seen ++ u ∷ []) (units_from info order (n - (i + 1)) u.end) ≡ units_of info order
  goes_on n i at seen u lt within h so_far =
      let k : n - i ≡ suc (n - (i + 1)) = omega arith in
      let s : appended seen (units_from info order (n - i) at) ≡ appended seen
      (units_from info order (n - (i + 1)) u.end >>= λ (us : List Unit). Ok (u ∷ us)) =
      rw (k, one_left (n - (i + 1)) at within, ← h) refl in
      sym (pushed seen u (units_from info order (n - (i + 1)) u.end)) ∙ sym s ∙ so_far

  pub runs_out : (n i at : ℕ) (seen : List Unit) → n ≤ i → appended seen
      (units_from info order (n - i) at) ≡ units_of info order → units_of info order ≡ Ok seen
  unfolding units_from
  runs_out n i at seen le so_far = let z : n - i ≡ 0 = omega arith in
      sym so_far ∙ rw z (ap (λ (us : List Unit). Ok us) (append-nil seen))

  pub end_inside : (at : ℕ) (u : Unit) → Ok u ≡ unit_at info order at → u.end ≤ length info
  end_inside at u h = (unit_within info order at u (sym h)).inside

  tail_of : (u : Unit) (r : Result (List Unit) UnitFault) (us : List Unit) → (r
      >>= λ (vs : List Unit). Ok (u ∷ vs)) ≡ Ok us → (vs : List Unit) × (r ≡ Ok vs) × (us ≡ u ∷ vs)
  tail_of u (Ok vs) us e = (vs, refl, cc)
  tail_of u (Err f) us e = absurd (cc)

  tail_fails : (u : Unit) (r : Result (List Unit) UnitFault) (f : UnitFault)
      → (r >>= λ (vs : List Unit). Ok (u ∷ vs)) ≡ Err f → r ≡ Err f
  tail_fails u (Ok vs) f e = absurd (cc)
  tail_fails u (Err g) f e = cc

  -- the units that are read follow one another to the section's end
  follows : (n at : ℕ) (us : List Unit) → at ≤ length info → length info ≤ at + n
      → units_from info order n at ≡ Ok us → Follow info order at us (length info)
  follows zero at us le fuel e = let none : units_from info order 0 at ≡ Ok [] =
      none_left 0 at (omega arith) in let same : [] ≡ us = cc in
      subst (λ (vs : List Unit). Follow info order at vs (length info)) same (omega arith)
  follows (suc n) at us le fuel e = by (nat_le (length info) at) refl
      (λ (next : ℕ) (vs : List Unit) (lt : at < next) (inside : next ≤ length info)
      (k : units_from info order n next ≡ Ok vs). follows n next vs inside (omega arith) k)
    where
      by : (b : Bool) → nat_le (length info) at ≡ b → ((next : ℕ) (vs : List Unit) → at < next
          → next ≤ length info → units_from info order n next ≡ Ok vs
          → Follow info order next vs (length info)) → Follow info order at us (length info)
      by true is ih =
          let end : length info ≤ at = leb-true (length info) at is in
          let none : units_from info order (suc n) at ≡ Ok [] = none_left (suc n) at end in
          let same : [] ≡ us = cc in
          subst (λ (vs : List Unit). Follow info order at vs (length info)) same (omega arith)
      by false is ih = unit_first (unit_at info order at) refl
          (sym (one_left n at (leb-false (length info) at is)) ∙ e) ih
        where
          unit_first : (r : Result Unit UnitFault) → unit_at info order at ≡ r
              → (r >>= λ (u : Unit). units_from info order n u.end >>= λ (vs : List Unit).
              Ok (u ∷ vs)) ≡ Ok us → ((next : ℕ) (vs : List Unit) → at < next → next ≤ length info
              → units_from info order n next ≡ Ok vs → Follow info order next vs (length info))
              → Follow info order at us (length info)
          unit_first (Err f) h e ih = absurd (cc)
          unit_first (Ok u) h e ih =
              let w = unit_within info order at u h in
              let t = tail_of u (units_from info order n u.end) us e in
              subst (λ (vs : List Unit). Follow info order at vs (length info)) (sym t.2) (
                h,
                ih u.end t.0 (omega (arith, w.begins, w.first)) w.inside t.1,
              )

  -- a fault that is read is that of a header behind some units that follow one another
  refused : (n at : ℕ) (f : UnitFault) → at ≤ length info → length info ≤ at + n
      → units_from info order n at ≡ Err f
      → (before : List Unit) × (mid : ℕ) × Follow info order at before mid × (mid < length info)
      × (unit_at info order mid ≡ Err f)
  refused zero at f le fuel e = let none : units_from info order 0 at ≡ Ok [] =
      none_left 0 at (omega arith) in absurd (cc)
  refused (suc n) at f le fuel e =
      by (nat_le (length info) at) refl
      (λ (next : ℕ) (lt : at < next) (inside : next ≤ length info)
      (k : units_from info order n next ≡ Err f). refused n next f inside (omega arith) k)
    where
      by : (b : Bool) → nat_le (length info) at ≡ b
          → ((next : ℕ) → at < next → next ≤ length info → units_from info order n next ≡ Err f
          → (before : List Unit) × (mid : ℕ) × Follow info order next before mid
          × (mid < length info) × (unit_at info order mid ≡ Err f))
          → (before : List Unit) × (mid : ℕ) × Follow info order at before mid
          × (mid < length info) × (unit_at info order mid ≡ Err f)
      by true is ih = let none : units_from info order (suc n) at ≡ Ok [] =
          none_left (suc n) at (leb-true (length info) at is) in absurd (cc)
      by false is ih = unit_first (unit_at info order at) refl
          (sym (one_left n at (leb-false (length info) at is)) ∙ e)
        where
          unit_first : (r : Result Unit UnitFault) → unit_at info order at ≡ r
              → (r >>= λ (u : Unit). units_from info order n u.end >>= λ (vs : List Unit).
              Ok (u ∷ vs)) ≡ Err f
              → (before : List Unit) × (mid : ℕ) × Follow info order at before mid
              × (mid < length info) × (unit_at info order mid ≡ Err f)
          unit_first (Err g) h e = let same : g ≡ f = cc in
              ([], at, refl, leb-false (length info) at is, h ∙ ap (λ (k : UnitFault). Err k) same)
          unit_first (Ok u) h e =
              let w = unit_within info order at u h in
              let k = ih u.end (omega (arith, w.begins, w.first)) w.inside
              (tail_fails u (units_from info order n u.end) f e) in
              (u ∷ k.0, k.1, (h, k.2), k.3, k.4)

  read_refused : (f : UnitFault) → units_of info order ≡ Err f → IsRefused info order f
  unfolding units_of
  read_refused f e = refused (length info) 0 f (omega arith) (omega arith) e

  -- what is read, in the standard's words
  pub reads : (r : Result (List Unit) UnitFault) → Gives r (units_of info order)
      → Reads info order r
  unfolding units_of
  reads (Ok us) h = follows (length info) 0 us (omega arith) (omega arith) h
  reads (Err Memory) h = tt
  reads (Err (UnitLength at)) h = read_refused (UnitLength at) h
  reads (Err (UnitVersion at v)) h = read_refused (UnitVersion at v) h
  reads (Err (UnitType at t)) h = read_refused (UnitType at t) h
  reads (Err (AddressSize at s)) h = read_refused (AddressSize at s) h

pub gives_fault : (f : UnitFault) (read : Result (List Unit) UnitFault) → read ≡ Err f
    → Gives (Err f) read
gives_fault Memory read h = tt
gives_fault (UnitLength at) read h = h
gives_fault (UnitVersion at v) read h = h
gives_fault (UnitType at t) read h = h
gives_fault (AddressSize at s) read h = h

each_unit : (info : List ℕ) (order : Order) (us : List Unit) (at end : ℕ)
    → Follow info order at us end → ByRecursion (λ (u : Unit). unit_at info order u.at ≡ Ok u) us
each_unit info order [] at end h = tt
each_unit info order (u ∷ us) at end h =
    let here : u.at ≡ at = (unit_within info order at u h.0).at_is in
    (ap (unit_at info order) here ∙ h.0, each_unit info order us u.end end h.1)

-- each unit of a list that is read is the one whose header stands at its place
pub units_each : (info : List ℕ) (order : Order) (r : Result (List Unit) UnitFault) → Reads info
    order r → IfOk r (λ (us : List Unit). All (λ (u : Unit). unit_at info order u.at ≡ Ok u) us)
units_each info order (Ok us) h = All-from_recursion
    (λ (u : Unit). unit_at info order u.at ≡ Ok u) us (each_unit info order us 0 (length info) h)
units_each info order (Err f) h = tt
