-- The bytes of a value, and what stands at a place.
use Rattle.std.proofs.Common.{◌≡◌, ℕ, ◌+◌, ◌-◌, ◌<◌, ◌≤◌, ◌==◌, ◌^◌, ℤ, Bool, true, false, List, []}
use Rattle.std.proofs.Common.{◌∷◌, ◌++◌, length, take, drop, nat_lt, Option, None, Some, Result, Ok}
use Rattle.std.proofs.Common.{Err, if◌then◌else◌, refl, sym, ap, subst, ◌∙◌, arith, inl, inr}
use Rattle.std.specs.Option.{option_map}
use Rattle.std.proofs.lemmas.Bool.{ne_eqb, eqb-true, eqb-false, lt-ltb, ltb-true, ltb-false, le-ltb}
use Rattle.std.proofs.lemmas.List.{take-append-drop, drop-drop, length-append, append_assoc}
use Rattle.std.proofs.lemmas.List.{length-drop, length-take-le, take_at, drop_at}
use Rattle.std.proofs.lemmas.Option.{same_Some}
use Rattle.dw_base.specs.Leb128.{leb_bytes, uleb_of, sleb_of, unsigned_of, unsigned_at, signed_of}
use Rattle.dw_base.specs.Leb128.{signed_at, fits_i64}
use Rattle.dw_base.specs.Numbers.{number_of, ordered}
use Rattle.dw_base.specs.Texts.{text_from, text_of}
use Rattle.dw_base.specs.declared.numbers.Order.{Order}
use Rattle.dw_base.specs.declared.leb128.LebFault.{LebFault}
use Rattle.dw_base.specs.declared.leb128.LebFault.TheVariants.{TooWide}
use Rattle.dw_base.proofs.Ends.{ok_parts}
use Rattle.dw_base.proofs.Numbering.{number_within, is_in}
use Rattle.dwarf_forms.specs.Standard.{IsLeb, HasNoNul, Stands}

-- places
pub join : (unit : List ℕ) (at mid end : ℕ) (p q : List ℕ) → Stands unit at p mid
    → Stands unit mid q end → Stands unit at (p ++ q) end
join unit at mid end p q a b =
    let d : drop mid unit ≡ a.0 = ap (λ (k : ℕ). drop k unit) a.2 ∙ sym
    (drop-drop (length p) at unit) ∙ ap (drop (length p)) a.1 ∙ drop_at p a.0 (length p) refl in (
      b.0,
      a.1 ∙ ap (λ (xs : List ℕ). p ++ xs) (sym d ∙ b.1) ∙ sym (append_assoc p q b.0),
      b.2 ∙ omega (arith, a.2, length-append p q),
    )

pub split : (unit : List ℕ) (at end : ℕ) (p q : List ℕ) → Stands unit at (p ++ q) end
    → Stands unit at p (at + length p) × Stands unit (at + length p) q end
split unit at end p q s =
    let e : drop at unit ≡ p ++ (q ++ s.0) = s.1 ∙ append_assoc p q s.0 in
    let d : drop (at + length p) unit ≡ q ++ s.0 = sym (drop-drop (length p) at unit)
    ∙ ap (drop (length p)) e ∙ drop_at p (q ++ s.0) (length p) refl in
    ((q ++ s.0, e, refl), (s.0, d, s.2 ∙ omega (arith, length-append p q)))

pub fits_in : (unit : List ℕ) (at end : ℕ) (piece : List ℕ) → 1 ≤ length piece
    → Stands unit at piece end → at + length piece ≤ length unit
fits_in unit at end piece some s =
    let l : length unit - at ≡ length piece + length s.0 =
    sym (length-drop at unit) ∙ ap (λ (xs : List ℕ). length xs) s.1 ∙ length-append piece s.0 in
    omega arith

pub taken : (unit : List ℕ) (at end : ℕ) (piece : List ℕ) → Stands unit at piece end
    → take (length piece) (drop at unit) ≡ piece
taken unit at end piece s = ap (take (length piece)) s.1 ∙ take_at piece s.0 (length piece) refl

-- so many bytes
pub piece_there : (unit : List ℕ) (at width : ℕ) → at + width ≤ length unit → Stands unit at
    (take width (drop at unit)) (at + width) × (length (take width (drop at unit)) ≡ width)
piece_there unit at width le =
    let l : length (take width (drop at unit)) ≡ width =
    length-take-le width (drop at unit) (omega (arith, length-drop at unit)) in
    ((drop width (drop at unit), sym (take-append-drop width (drop at unit)), omega (arith, l)), l)

-- LEB128 numbers
leb_first : (b : ℕ) (bs ds : List ℕ) (t : Bool) (o : Option (List ℕ)) → nat_lt b 128 ≡ t
    → ((es : List ℕ) → o ≡ Some es → (rest : List ℕ) × (bs ≡ es ++ rest) × IsLeb es)
    → (if t then Some (b ∷ []) else option_map (λ (rest : List ℕ). b ∷ rest) o) ≡ Some ds
    → (rest : List ℕ) × (b ∷ bs ≡ ds ++ rest) × IsLeb ds
leb_first b bs ds true o t ih e = let q : b ∷ [] ≡ ds = cc in
    (bs, ap (λ (xs : List ℕ). xs ++ bs) q, subst IsLeb q (inl (ltb-true b 128 t, refl)))
leb_first b bs ds false None t ih e = cc
leb_first b bs ds false (Some es) t ih e =
    let q : b ∷ es ≡ ds = cc in
    let i = ih es refl in (
      i.0,
      ap (λ (xs : List ℕ). b ∷ xs) i.1 ∙ ap (λ (xs : List ℕ). xs ++ i.0) q,
      subst IsLeb q (inr (ltb-false b 128 t, i.2)),
    )

pub leb_is : (xs ds : List ℕ) → leb_bytes xs ≡ Some ds
    → (rest : List ℕ) × (xs ≡ ds ++ rest) × IsLeb ds
unfolding leb_bytes
leb_is [] ds e = cc
leb_is (b ∷ bs) ds e = leb_first b bs ds (nat_lt b 128) (leb_bytes bs) refl
    (λ (es : List ℕ) (h : leb_bytes bs ≡ Some es). leb_is bs es h) e

pub leb_gives : (ds rest : List ℕ) → IsLeb ds → leb_bytes (ds ++ rest) ≡ Some ds
unfolding leb_bytes
leb_gives [] rest h = elim h [ ]
leb_gives (b ∷ bs) rest (inl h) = rw (lt-ltb b 128 h.0, h.1) refl
leb_gives (b ∷ bs) rest (inr h) = rw (le-ltb b 128 h.0, leb_gives bs rest h.1) refl

unsigned_fits : (at v end : ℕ) (ds : List ℕ) (t : Bool) → nat_lt (unsigned_of ds) (2 ^ 64) ≡ t
    → ◌≡◌ {A = Result (ℕ × ℕ) LebFault}
    (if t then Ok (unsigned_of ds, at + length ds) else Err TooWide) (Ok (v, end))
    → (unsigned_of ds < 2 ^ 64) × (v ≡ unsigned_of ds) × (end ≡ at + length ds)
unsigned_fits at v end ds true t e = let p = ok_parts {F = LebFault} (unsigned_of ds) v
    (at + length ds) end e in (ltb-true (unsigned_of ds) (2 ^ 64) t, sym p.0, sym p.1)
unsigned_fits at v end ds false t e = cc

-- digits at a place, and what they sum to
pub record Digits (unit : List ℕ) (at v end : ℕ) : Type 0 where
  pub digits : List ℕ
  pub stands : Stands unit at digits end
  pub leb : IsLeb digits
  pub fits : unsigned_of digits < 2 ^ 64
  pub is : v ≡ unsigned_of digits

unsigned_is : (unit : List ℕ) (at v end : ℕ) (o : Option (List ℕ)) → leb_bytes (drop at unit) ≡ o
    → unsigned_at at o ≡ Ok (v, end) → Digits unit at v end
unsigned_is unit at v end None h e = cc
unsigned_is unit at v end (Some ds) h e =
    let l = leb_is (drop at unit) ds h in
    let n = unsigned_fits at v end ds (nat_lt (unsigned_of ds) (2 ^ 64)) refl e in
    record { digits = ds; stands = (l.0, l.1, n.2); leb = l.2; fits = n.0; is = n.1 }

pub uleb_is : (unit : List ℕ) (at v end : ℕ) → uleb_of unit at ≡ Ok (v, end) → Digits unit at v end
unfolding uleb_of
uleb_is unit at v end e = unsigned_is unit at v end (leb_bytes (drop at unit)) refl e

pub digits_at : (unit : List ℕ) (at end : ℕ) (ds : List ℕ) → Stands unit at ds end → IsLeb ds
    → leb_bytes (drop at unit) ≡ Some ds
digits_at unit at end ds s l = ap leb_bytes s.1 ∙ leb_gives ds s.0 l

pub uleb_gives : (unit : List ℕ) (at end : ℕ) (ds : List ℕ) → Stands unit at ds end → IsLeb ds
    → unsigned_of ds < 2 ^ 64 → uleb_of unit at ≡ Ok (unsigned_of ds, end)
unfolding uleb_of
uleb_gives unit at end ds s l fits = rw (
  digits_at unit at end ds s l,
  lt-ltb (unsigned_of ds) (2 ^ 64) fits,
) (ap (λ (k : ℕ). Ok (unsigned_of ds, k)) (sym s.2))

signed_fits : (at : ℕ) (v : ℤ) (end : ℕ) (ds : List ℕ) (t : Bool) → fits_i64 (signed_of ds) ≡ t
    → ◌≡◌ {A = Result (ℤ × ℕ) LebFault}
    (if t then Ok (signed_of ds, at + length ds) else Err TooWide) (Ok (v, end))
    → (fits_i64 (signed_of ds) ≡ true) × (v ≡ signed_of ds) × (end ≡ at + length ds)
signed_fits at v end ds true t e = let p =
    ok_parts {F = LebFault} (signed_of ds) v (at + length ds) end e in (t, sym p.0, sym p.1)
signed_fits at v end ds false t e = cc

pub record SignedDigits (unit : List ℕ) (at : ℕ) (v : ℤ) (end : ℕ) : Type 0 where
  pub digits : List ℕ
  pub stands : Stands unit at digits end
  pub leb : IsLeb digits
  pub fits : fits_i64 (signed_of digits) ≡ true
  pub is : v ≡ signed_of digits

signed_is : (unit : List ℕ) (at : ℕ) (v : ℤ) (end : ℕ) (o : Option (List ℕ))
    → leb_bytes (drop at unit) ≡ o → signed_at at o ≡ Ok (v, end) → SignedDigits unit at v end
signed_is unit at v end None h e = cc
signed_is unit at v end (Some ds) h e =
    let l = leb_is (drop at unit) ds h in
    let n = signed_fits at v end ds (fits_i64 (signed_of ds)) refl e in
    record { digits = ds; stands = (l.0, l.1, n.2); leb = l.2; fits = n.0; is = n.1 }

pub sleb_is : (unit : List ℕ) (at : ℕ) (v : ℤ) (end : ℕ) → sleb_of unit at ≡ Ok (v, end)
    → SignedDigits unit at v end
unfolding sleb_of
sleb_is unit at v end e = signed_is unit at v end (leb_bytes (drop at unit)) refl e

pub sleb_gives : (unit : List ℕ) (at end : ℕ) (ds : List ℕ) → Stands unit at ds end → IsLeb ds
    → fits_i64 (signed_of ds) ≡ true → sleb_of unit at ≡ Ok (signed_of ds, end)
unfolding sleb_of
sleb_gives unit at end ds s l fits =
    rw (digits_at unit at end ds s l, fits) (ap (λ (k : ℕ). Ok (signed_of ds, k)) (sym s.2))

-- texts
text_first : (b : ℕ) (bs u : List ℕ) (t : Bool) (o : Option (List ℕ)) → (b == 0) ≡ t
    → ((w : List ℕ) → o ≡ Some w → (rest : List ℕ) × (bs ≡ (w ++ 0 ∷ []) ++ rest) × HasNoNul w)
    → (if t then Some [] else option_map (λ (rest : List ℕ). b ∷ rest) o) ≡ Some u
    → (rest : List ℕ) × (b ∷ bs ≡ (u ++ 0 ∷ []) ++ rest) × HasNoNul u
text_first b bs u true o t ih e = let q : [] ≡ u = cc in (
  bs,
  ap (λ (k : ℕ). k ∷ bs)
      (eqb-true b 0 t) ∙ ap (λ (xs : List ℕ). (xs ++ 0 ∷ []) ++ bs) q,
  subst HasNoNul q tt,
)
text_first b bs u false None t ih e = cc
text_first b bs u false (Some w) t ih e =
    let q : b ∷ w ≡ u = cc in
    let i = ih w refl in (
      i.0,
      ap (λ (xs : List ℕ). b ∷ xs) i.1 ∙ ap (λ (xs : List ℕ). (xs ++ 0 ∷ []) ++ i.0) q,
      subst HasNoNul q (eqb-false b 0 t, i.2),
    )

text_is : (xs u : List ℕ) → text_from xs ≡ Some u
    → (rest : List ℕ) × (xs ≡ (u ++ 0 ∷ []) ++ rest) × HasNoNul u
unfolding text_from
text_is [] u e = cc
text_is (b ∷ bs) u e = text_first b bs u (b == 0) (text_from bs) refl
    (λ (w : List ℕ) (h : text_from bs ≡ Some w). text_is bs w h) e

text_gives : (u rest : List ℕ) → HasNoNul u → text_from ((u ++ 0 ∷ []) ++ rest) ≡ Some u
unfolding text_from
text_gives [] rest h = refl
text_gives (b ∷ bs) rest h = rw (ne_eqb b 0 h.0, text_gives bs rest h.1) refl

pub nul_length : (u : List ℕ) → length (u ++ 0 ∷ []) ≡ length u + 1
nul_length u = length-append u (0 ∷ [])

pub text_stands : (unit : List ℕ) (at : ℕ) (u : List ℕ) → text_of unit at ≡ Some u
    → Stands unit at (u ++ 0 ∷ []) (at + length u + 1) × HasNoNul u
unfolding text_of
text_stands unit at u e = let t = text_is (drop at unit) u e in
    ((t.0, t.1, omega (arith, nul_length u)), t.2)

pub text_found : (unit : List ℕ) (at end : ℕ) (u : List ℕ) → Stands unit at (u ++ 0 ∷ []) end
    → HasNoNul u → text_of unit at ≡ Some u
unfolding text_of
text_found unit at end u s h = ap text_from s.1 ∙ text_gives u s.0 h

pub number_stands : (unit : List ℕ) (at w n : ℕ) (order : Order)
    → number_of unit at w order ≡ Some n → (piece : List ℕ) × Stands unit at piece (at + w)
    × (length piece ≡ w) × (n ≡ ordered order piece)
number_stands unit at w n order e =
    let le = number_within unit at w n order e in
    let p = piece_there unit at w le in
    let i : Some (ordered order (take w (drop at unit))) ≡ number_of unit at w order =
    is_in unit at w (ordered order (take w (drop at unit))) order le refl in (
      take w (drop at unit),
      p.0,
      p.1,
      sym (same_Some (ordered order (take w (drop at unit))) n (i ∙ e)),
    )

pub number_found : (unit : List ℕ) (at w end : ℕ) (order : Order) (piece : List ℕ) → 1 ≤ w → length
    piece ≡ w → Stands unit at piece end → number_of unit at w order ≡ Some (ordered order piece)
number_found unit at w end order piece some l s =
    let le : at + w ≤ length unit = omega (arith, fits_in unit at end piece (omega arith) s) in
    let t : take w (drop at unit) ≡ piece =
    ap (λ (k : ℕ). take k (drop at unit)) (sym l) ∙ taken unit at end piece s in
    sym (is_in unit at w (ordered order piece) order le (ap (ordered order) (sym t)))
