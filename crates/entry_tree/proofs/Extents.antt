-- Where a unit whose header is read lies.
use Rattle.std.proofs.Common.{◌≡◌, ℕ, ◌+◌, ◌<◌, ◌≤◌, ◌==◌, ◌||◌, nat_le, nat_lt, Bool, true, false}
use Rattle.std.proofs.Common.{List, length, take, get_or, Option, None, Some, Result, Ok, Err, IfOk}
use Rattle.std.proofs.Common.{if◌then◌else◌, refl, sym, ap, subst, arith, ⊎_elim}
use Rattle.std.proofs.lemmas.Bool.{leb-true, eqb-true, or_cases}
use Rattle.dw_base.specs.Numbers.{number_of}
use Rattle.dw_base.specs.declared.numbers.Order.{Order}
use Rattle.dwarf_forms.specs.Forms.{HasWidth}
use Rattle.entry_tree.specs.Units.{◌>>=◌, or_short, extent_of, extent_at, fields_of_4, fields_of_5}
use Rattle.entry_tree.specs.Units.{fields_of, type_in, check_address, unit_at, IsInside}
use Rattle.entry_tree.specs.declared.unit.Unit.{Unit}
use Rattle.entry_tree.specs.declared.unit.UnitFault.{UnitFault}
use Rattle.entry_tree.specs.declared.unit.UnitFault.TheVariants.{UnitLength, UnitVersion}
use Rattle.entry_tree.specs.declared.unit.UnitFault.TheVariants.{AddressSize}
use Rattle.entry_tree.specs.declared.headers.UnitSpan.{UnitSpan}
use Rattle.entry_tree.specs.declared.headers.Fields.{Fields}

pub bind_ok : {A B : Type 0} (r : Result A UnitFault) (f : A → Result B UnitFault) (y : B)
    → (r >>= f) ≡ Ok y → (x : A) × (r ≡ Ok x) × (f x ≡ Ok y)
bind_ok (Ok x) f y e = (x, refl, e)
bind_ok (Err d) f y e = absurd (cc)

if_ok : {A : Type 0} (b : Bool) (x y : A) (d : UnitFault) → (if b then Ok x else Err d) ≡ Ok y
    → (b ≡ true) × (x ≡ y)
if_ok true x y d e = (refl, cc)
if_ok false x y d e = absurd (cc)

short_ok : {A : Type 0} (at : ℕ) (o : Option A) (y : A) → or_short at o ≡ Ok y → o ≡ Some y
short_ok at None y e = absurd (cc)
short_ok at (Some x) y e = cc

-- an extent lies in the section behind the unit's first byte
pub record Lies (info : List ℕ) (at : ℕ) (e : UnitSpan) : Type 0 where
  pub begins : at < e.after
  pub inside : IsInside info e

made_inside : (info : List ℕ) (at width after size : ℕ) (e : UnitSpan) → at < after → HasWidth width
    → extent_of info at width after size ≡ Ok e → Lies info at e
made_inside info at width after size e begins width_is h =
    let p = if_ok (nat_le (after + size) (length info))
    (record { offset_bytes = width; after = after; end = after + size }) e (UnitLength at) h in
    let le : after + size ≤ length info = leb-true (after + size) (length info) p.0 in
    let b : e.after ≡ after = ap (λ (x : UnitSpan). x.after) (sym p.1) in
    let c : e.end ≡ after + size = ap (λ (x : UnitSpan). x.end) (sym p.1) in
    let d : e.offset_bytes ≡ width = ap (λ (x : UnitSpan). x.offset_bytes) (sym p.1) in
    record {
      begins = omega arith;
      inside = record { behind = omega arith; inside = omega arith; width = rw d width_is };
    }

pub extent_inside : (info : List ℕ) (order : Order) (at : ℕ) (e : UnitSpan)
    → extent_at info order at ≡ Ok e → Lies info at e
unfolding extent_at
extent_inside info order at e h =
    let p = bind_ok (or_short at (number_of info at 4 order)) _ e h in
    by p.0 (p.0 == 0xffffffff) p.2
  where
    short : (size : ℕ) (b : Bool) → (if b then extent_of info at 4 (at + 4) size
        else Err (UnitLength at)) ≡ Ok e → Lies info at e
    short size true h =
        made_inside info at 4 (at + 4) size e (omega arith) (omega arith, omega arith) h
    short size false h = absurd (cc)

    by : (size : ℕ) (b : Bool)
        → (if b then (or_short at (number_of info (at + 4) 8 order) >>= λ (long : ℕ).
        extent_of info at 8 (at + 12) long)
        else (if nat_lt size 0xfffffff0 then extent_of info at 4 (at + 4) size
        else Err (UnitLength at))) ≡ Ok e → Lies info at e
    by size true h = let p = bind_ok (or_short at (number_of info (at + 4) 8 order))
        (λ (long : ℕ). extent_of info at 8 (at + 12) long) e h in
        made_inside info at 8 (at + 12) p.0 e (omega arith) (omega arith, omega arith) p.2
    by size false h = short size (nat_lt size 0xfffffff0) h

-- the unit whose header stands at a place
pub record IsWithin (info : List ℕ) (at : ℕ) (u : Unit) : Type 0 where
  pub at_is : u.at ≡ at
  pub begins : at < u.first
  pub first : u.first ≤ u.end
  pub inside : u.end ≤ length info
  pub offsets : HasWidth u.offset_bytes
  pub addresses : HasWidth u.address_bytes

four_or_eight : (at size n : ℕ) → check_address at size ≡ Ok n → HasWidth n
four_or_eight at size n h =
    let p = if_ok (size == 4 || size == 8) size n (AddressSize at size) h in
    ⊎_elim (λ (four : (size == 4) ≡ true). let e : size ≡ 4 = eqb-true size 4 four in
    (omega (arith, p.1), omega (arith, p.1)))
    (λ (eight : (size == 8) ≡ true). let e : size ≡ 8 = eqb-true size 8 eight in
    (omega (arith, p.1), omega (arith, p.1))) (or_cases (size == 4) (size == 8) p.0)

fields_first : (at version after width : ℕ) (f : Fields) → fields_of at version after width ≡ Ok f
    → after < f.first
fields_first at version after width f h = by (version == 4) h
  where
    by : (b : Bool) → (if b then Ok (fields_of_4 after width) else if version == 5 then Ok
        (fields_of_5 after width) else Err (UnitVersion at version)) ≡ Ok f → after < f.first
    by true h =
        let p : fields_of_4 after width ≡ f = cc in
        let e : f.first ≡ after + width + 1 = ap (λ (x : Fields). x.first) (sym p) in omega arith
    by false h =
        let p = if_ok (version == 5) (fields_of_5 after width) f (UnitVersion at version) h in
        let e : f.first ≡ after + 2 + width = ap (λ (x : Fields). x.first) (sym p.1) in omega arith

each : {A B : Type 0} (P : B → Type 0) (r : Result A UnitFault) (f : A → Result B UnitFault)
    → ((x : A) → r ≡ Ok x → IfOk (f x) P) → IfOk (r >>= f) P
each P (Ok x) f h = h x refl
each P (Err e) f h = tt

pub unit_lies : (info : List ℕ) (order : Order) (at : ℕ)
    → IfOk (unit_at info order at) (IsWithin info at)
unfolding unit_at
unit_lies info order at =
    each (IsWithin info at) (extent_at info order at) _
    (λ (e : UnitSpan) (extent : extent_at info order at ≡ Ok e).
    each (IsWithin info at) (or_short at (number_of (take e.end info) e.after 2 order)) _
    (λ (version : ℕ)
    (there : or_short at (number_of (take e.end info) e.after 2 order) ≡ Ok version).
    each (IsWithin info at) (fields_of at version (e.after + 2) e.offset_bytes) _
    (λ (f : Fields) (fields : fields_of at version (e.after + 2) e.offset_bytes ≡ Ok f).
    each (IsWithin info at) (if nat_le f.first e.end then Ok f else Err (UnitLength at)) _ (λ
    (w : Fields) (whole : (if nat_le f.first e.end then Ok f else Err (UnitLength at)) ≡ Ok w).
    each (IsWithin info at) (type_in (take e.end info) at f.unit_type_at) _
    (λ (t : ℕ) (kind : type_in (take e.end info) at f.unit_type_at ≡ Ok t).
    each (IsWithin info at) (check_address at (get_or (take e.end info) f.address_size_at 0)) _
    (λ (size : ℕ)
    (address : check_address at (get_or (take e.end info) f.address_size_at 0) ≡ Ok size).
    let lies : Lies info at e = extent_inside info order at e extent in
    let begins : e.after + 2 < f.first =
    fields_first at version (e.after + 2) e.offset_bytes f fields in
    let first : f.first ≤ e.end =
    leb-true f.first e.end (if_ok (nat_le f.first e.end) f w (UnitLength at) whole).0 in
    record {
      at_is = refl;
      begins = omega (arith, lies.begins);
      first = first;
      inside = lies.inside.inside;
      offsets = lies.inside.width;
      addresses = four_or_eight at (get_or (take e.end info) f.address_size_at 0) size address;
    }))))))

pub unit_within : (info : List ℕ) (order : Order) (at : ℕ) (u : Unit) → unit_at info order at ≡ Ok u
    → IsWithin info at u
unit_within info order at u h =
    subst (λ (r : Result Unit UnitFault). IfOk r (IsWithin info at)) h (unit_lies info order at)
