-- A value read is the value that the standard lays out.
use Rattle.std.proofs.Common.{◌≡◌, ◌≢◌, ℕ, ◌+◌, ◌<◌, ◌≤◌, ◌==◌, ◌||◌, ◌^◌, ℤ, Bool, true, false}
use Rattle.std.proofs.Common.{List, [], ◌∷◌, ◌++◌, length, take, drop, nat_le, Option, None, Some}
use Rattle.std.proofs.Common.{Result, Ok, Err, if◌then◌else◌, refl, sym, ap, subst, ◌∙◌, arith, inl}
use Rattle.std.proofs.Common.{inr}
use Rattle.std.specs.Prelude.{not}
use Rattle.std.proofs.lemmas.Bool.{eq-eqb, ne_eqb, eqb-true, eqb-false, le-leb, leb-true}
use Rattle.std.proofs.lemmas.List.{length-append}
use Rattle.dw_base.specs.Leb128.{uleb_of, sleb_of, unsigned_of, signed_of, fits_i64}
use Rattle.dw_base.specs.Numbers.{number_of, ordered}
use Rattle.dw_base.specs.Texts.{text_of}
use Rattle.dw_base.specs.declared.numbers.Order.{Order}
use Rattle.dw_base.specs.declared.leb128.LebFault.{LebFault}
use Rattle.dw_base.specs.declared.leb128.LebFault.TheVariants.{Truncated, TooWide}
use Rattle.dw_base.proofs.Ends.{ok_parts}
use Rattle.dwarf_abbrev.specs.declared.constants.TheConstants.{DW_FORM_implicit_const}
use Rattle.dwarf_abbrev.specs.declared.constants.TheConstants.{DW_FORM_indirect}
use Rattle.dwarf_abbrev.specs.declared.spec.Spec.{Spec}
use Rattle.dw_base.proofs.Numbering.{byte_ordered}
use Rattle.dwarf_forms.specs.declared.fault.FormFault.{FormFault}
use Rattle.dwarf_forms.specs.declared.fault.FormFault.TheVariants.{FormUnknown, ValueTruncated}
use Rattle.dwarf_forms.specs.declared.layout.FormLayout.{FormLayout}
use Rattle.dwarf_forms.specs.declared.layout.FormLayout.TheVariants as layouts
use Rattle.dwarf_forms.specs.declared.layout.BlockClass.{BlockClass}
use Rattle.dwarf_forms.specs.Forms.{layout_of, HasWidth, HasWidths}
use Rattle.dwarf_forms.specs.Values.{◌>>=◌, Plain, Shown, Within, or_cut, of_leb, or_unknown}
use Rattle.dwarf_forms.specs.Values.{fixed_at, uleb_at, sleb_at, bytes_at, text_at, read_at, form_at}
use Rattle.dwarf_forms.specs.Values.{value_of}
use Rattle.dwarf_forms.specs.Values.Plain.{number, signed, bytes, sixteen, text, flag, elsewhere}
use Rattle.dwarf_forms.specs.Standard.{IsLeb, HasNoNul, Means, Stands, IsOfForm, Uses, IsValue}
use Rattle.dwarf_forms.proofs.Progress.{bind_ok}
use Rattle.dwarf_forms.proofs.Widths.{has_widths}
use Rattle.dwarf_forms.proofs.Pieces.{join, split, fits_in, taken, piece_there, uleb_is, uleb_gives}
use Rattle.dwarf_forms.proofs.Pieces.{sleb_is, sleb_gives, text_stands, text_found, nul_length}
use Rattle.dwarf_forms.proofs.Pieces.{number_stands, number_found}

pub bind_gives : {A B : Type 0} (r : Result A FormFault) (f : A → Result B FormFault) (x : A)
    → r ≡ Ok x → (r >>= f) ≡ f x
bind_gives r f x e = rw e refl

-- leaves
leb_found : {A : Type 0} (at attribute : ℕ) (r : Result A LebFault) (x : A)
    → of_leb at attribute r ≡ Ok x → r ≡ Ok x
leb_found at attribute (Ok y) x e = let q : y ≡ x = cc in ap (λ z. Ok z) q
leb_found at attribute (Err Truncated) x e = cc
leb_found at attribute (Err TooWide) x e = cc

pub cut_found : {A : Type 0} (attribute : ℕ) (o : Option A) (x : A) → or_cut attribute o ≡ Ok x
    → o ≡ Some x
cut_found attribute None x e = cc
cut_found attribute (Some y) x e = let q : y ≡ x = cc in ap (λ z. Some z) q

pub fixed_is : (unit : List ℕ) (at w : ℕ) (order : Order) (attribute n end : ℕ)
    → fixed_at unit at w order attribute ≡ Ok (n, end)
    → (piece : List ℕ) × Stands unit at piece end × (length piece ≡ w) × (n ≡ ordered order piece)
unfolding fixed_at
fixed_is unit at w order attribute n end e =
    let b = bind_ok (or_cut attribute (number_of unit at w order))
    (λ (n : ℕ). Ok (n, at + w)) (n, end) e in
    let o = cut_found attribute (number_of unit at w order) b.0 b.1 in
    let p = ok_parts {F = FormFault} b.0 n (at + w) end b.2 in
    let s = number_stands unit at w b.0 order o in
    (s.0, subst (λ (k : ℕ). Stands unit at s.0 k) p.1 s.1, s.2, sym p.0 ∙ s.3)

pub fixed_gives : (unit : List ℕ) (at w : ℕ) (order : Order) (attribute end : ℕ) (piece : List ℕ)
    → 1 ≤ w → Stands unit at piece end → length piece ≡ w
    → fixed_at unit at w order attribute ≡ Ok (ordered order piece, end)
unfolding fixed_at
fixed_gives unit at w order attribute end piece some s l =
    let k : at + w ≡ end = omega (arith, s.2, l) in
    bind_gives (or_cut attribute (number_of unit at w order)) (λ (n : ℕ). Ok (n, at + w)) (ordered
    order piece) (ap (or_cut attribute) (number_found unit at w end order piece some l s))
    ∙ ap (λ (k : ℕ). Ok (ordered order piece, k)) k

bytes_test : (unit : List ℕ) (at count attribute : ℕ) (bs : List ℕ) (end : ℕ) (t : Bool)
    → nat_le (at + count) (length unit) ≡ t → ◌≡◌ {A = Result (List ℕ × ℕ) FormFault} (if t then Ok
    (take count (drop at unit), at + count) else Err (ValueTruncated attribute)) (Ok (bs, end))
    → Stands unit at bs end × (length bs ≡ count)
bytes_test unit at count attribute bs end true t e =
    let p = ok_parts {F = FormFault} (take count (drop at unit)) bs (at + count) end e in
    let s = piece_there unit at count (leb-true (at + count) (length unit) t) in (
      subst (λ (k : ℕ). Stands unit at bs k) p.1 (subst (λ (xs : List ℕ).
          Stands unit at xs (at + count)) p.0 s.0),
      ap (λ (xs : List ℕ). length xs) (sym p.0) ∙ s.1,
    )
bytes_test unit at count attribute bs end false t e = cc

bytes_is : (unit : List ℕ) (at count attribute : ℕ) (bs : List ℕ) (end : ℕ)
    → bytes_at unit at count attribute ≡ Ok (bs, end) → Stands unit at bs end × (length bs ≡ count)
unfolding bytes_at
bytes_is unit at count attribute bs end e =
    bytes_test unit at count attribute bs end (nat_le (at + count) (length unit)) refl e

bytes_gives : (unit : List ℕ) (at count attribute : ℕ) (bs : List ℕ) (end : ℕ)
    → at + count ≤ length unit → Stands unit at bs end → length bs ≡ count
    → bytes_at unit at count attribute ≡ Ok (bs, end)
unfolding bytes_at
bytes_gives unit at count attribute bs end le s l =
    let t : take count (drop at unit) ≡ bs =
    ap (λ (k : ℕ). take k (drop at unit)) (sym l) ∙ taken unit at end bs s in
    let k : at + count ≡ end = omega (arith, s.2, l) in
    rw (le-leb (at + count) (length unit) le, t) (ap (λ (k : ℕ). Ok (bs, k)) k)

pub text_at_is : (unit : List ℕ) (at attribute : ℕ) (u : List ℕ) (end : ℕ)
    → text_at unit at attribute ≡ Ok (u, end) → Stands unit at (u ++ 0 ∷ []) end × HasNoNul u
unfolding text_at
text_at_is unit at attribute u end e =
    let b = bind_ok (or_cut attribute (text_of unit at))
    (λ (t : List ℕ). Ok (t, at + length t + 1)) (u, end) e in
    let o = cut_found attribute (text_of unit at) b.0 b.1 in
    let p = ok_parts {F = FormFault} b.0 u (at + length b.0 + 1) end b.2 in
    let s = text_stands unit at b.0 o in (
      subst (λ (k : ℕ). Stands unit at (u ++ 0 ∷ []) k) p.1 (subst (λ (xs : List ℕ).
          Stands unit at (xs ++ 0 ∷ []) (at + length b.0 + 1)) p.0 s.0),
      subst HasNoNul p.0 s.1,
    )

text_at_gives : (unit : List ℕ) (at attribute : ℕ) (u : List ℕ) (end : ℕ)
    → Stands unit at (u ++ 0 ∷ []) end → HasNoNul u → text_at unit at attribute ≡ Ok (u, end)
unfolding text_at
text_at_gives unit at attribute u end s h =
    let k : at + length u + 1 ≡ end = omega (arith, s.2, nul_length u) in
    bind_gives (or_cut attribute (text_of unit at)) (λ (t : List ℕ). Ok (t, at + length t + 1)) u
    (ap (or_cut attribute) (text_found unit at end u s h)) ∙ ap (λ (k : ℕ). Ok (u, k)) k

pub uleb_at_is : (unit : List ℕ) (at attribute n end : ℕ) → uleb_at unit at attribute ≡ Ok (n, end)
    → uleb_of unit at ≡ Ok (n, end)
unfolding uleb_at
uleb_at_is unit at attribute n end e = leb_found at attribute (uleb_of unit at) (n, end) e

pub uleb_at_gives : (unit : List ℕ) (at attribute end : ℕ) (ds : List ℕ) → Stands unit at ds end
    → IsLeb ds → unsigned_of ds < 2 ^ 64 → uleb_at unit at attribute ≡ Ok (unsigned_of ds, end)
unfolding uleb_at
uleb_at_gives unit at attribute end ds s l fits =
    ap (of_leb at attribute) (uleb_gives unit at end ds s l fits)

pub sleb_at_is : (unit : List ℕ) (at attribute : ℕ) (n : ℤ) (end : ℕ)
    → sleb_at unit at attribute ≡ Ok (n, end) → sleb_of unit at ≡ Ok (n, end)
unfolding sleb_at
sleb_at_is unit at attribute n end e = leb_found at attribute (sleb_of unit at) (n, end) e

signed_gives : (unit : List ℕ) (at attribute end : ℕ) (ds : List ℕ) → Stands unit at ds end
    → IsLeb ds → fits_i64 (signed_of ds) ≡ true → sleb_at unit at attribute ≡ Ok (signed_of ds, end)
unfolding sleb_at
signed_gives unit at attribute end ds s l fits =
    ap (of_leb at attribute) (sleb_gives unit at end ds s l fits)

-- no bytes
nothing : (unit : List ℕ) (at end : ℕ) → at ≡ end → Stands unit at [] end
nothing unit at end e = (drop at unit, refl, omega (arith, e))

no_byte : (piece : List ℕ) → length piece ≡ 0 → piece ≡ []
no_byte [] e = refl
no_byte (b ∷ bs) e = absurd (omega arith)

-- one byte
one_byte : (piece : List ℕ) → length piece ≡ 1 → (b : ℕ) × (piece ≡ b ∷ [])
one_byte [] e = absurd (omega arith)
one_byte (b ∷ []) e = (b, refl)
one_byte (b ∷ c ∷ bs) e = absurd (omega arith)

-- the value of a layout
abbrev Read : FormLayout → ℕ → List ℕ → ℕ → Order → Spec → Plain → ℕ → Type 0
Read l form unit at order spec v end =
    (piece : List ℕ) × Stands unit at piece end × Means l form order spec.implicit piece v

abbrev pub made_from : {A : Type 0} → (A → Plain) → A × ℕ → Result (Plain × ℕ) FormFault
made_from g n = Ok (g n.0, n.1)

pub made_by : {A : Type 0} (r : Result (A × ℕ) FormFault) (g : A → Plain) (v : Plain) (end : ℕ)
    → (r >>= made_from g) ≡ Ok (v, end) → (x : A) × (r ≡ Ok (x, end)) × (v ≡ g x)
made_by {A} r g v end e =
    let b = bind_ok r (made_from g) (v, end) e in
    let p = ok_parts {F = FormFault} (g b.0.0) v b.0.1 end b.2 in
    (b.0.0, subst (λ (k : ℕ). r ≡ Ok (b.0.0, k)) p.1 b.1, sym p.0)

pub read_is : (l : FormLayout) (form : ℕ) (unit : List ℕ) (at : ℕ) (order : Order) (spec : Spec)
    (v : Plain) (end : ℕ) → read_at l form unit at order spec ≡ Ok (v, end)
    → Read l form unit at order spec v end
unfolding read_at
read_is (layouts.Fixed w kind) form unit at order spec v end e =
    let m = made_by (fixed_at unit at w order spec.attribute) (λ (n : ℕ). number kind n) v end e in
    let s = fixed_is unit at w order spec.attribute m.0 end m.1 in
    (s.0, s.1, (s.2, m.2 ∙ ap (λ (n : ℕ). number kind n) s.3))
read_is (layouts.Leb kind) form unit at order spec v end e =
    let m = made_by (uleb_at unit at spec.attribute) (λ (n : ℕ). number kind n) v end e in
    let d = uleb_is unit at m.0 end (uleb_at_is unit at spec.attribute m.0 end m.1) in
    (d.digits, d.stands, (d.leb, d.fits, m.2 ∙ ap (λ (n : ℕ). number kind n) d.is))
read_is layouts.Signed form unit at order spec v end e =
    let m = made_by (sleb_at unit at spec.attribute) (λ (n : ℤ). signed n) v end e in
    let d = sleb_is unit at m.0 end (sleb_at_is unit at spec.attribute m.0 end m.1) in
    (d.digits, d.stands, (d.leb, d.fits, m.2 ∙ ap (λ (n : ℤ). signed n) d.is))
read_is layouts.Implicit form unit at order spec v end e =
    let m = made_by (bytes_at unit at 0 spec.attribute)
    (λ (b : List ℕ). signed spec.implicit) v end e in
    let s = bytes_is unit at 0 spec.attribute m.0 end m.1 in
    (m.0, s.0, (no_byte m.0 s.1, m.2))
read_is layouts.Flag form unit at order spec v end e =
    let m = made_by (fixed_at unit at 1 order spec.attribute)
    (λ (n : ℕ). flag (not (n == 0))) v end e in
    let s = fixed_is unit at 1 order spec.attribute m.0 end m.1 in
    let o = one_byte s.0 s.2 in
    let n : m.0 ≡ o.0 = s.3 ∙ ap (ordered order) o.1 ∙ byte_ordered order o.0 in
    (s.0, s.1, (o.0, o.1, m.2 ∙ ap (λ (n : ℕ). flag (not (n == 0))) n))
read_is layouts.Present form unit at order spec v end e =
    let m = made_by (bytes_at unit at 0 spec.attribute) (λ (b : List ℕ). flag true) v end e in
    let s = bytes_is unit at 0 spec.attribute m.0 end m.1 in
    (m.0, s.0, (no_byte m.0 s.1, m.2))
read_is layouts.Text form unit at order spec v end e =
    let m = made_by (text_at unit at spec.attribute) (λ (t : List ℕ). text t) v end e in
    let s = text_at_is unit at spec.attribute m.0 end m.1 in
    (m.0 ++ 0 ∷ [], s.0, (m.0, refl, s.1, m.2))
read_is layouts.Sixteen form unit at order spec v end e =
    let m = made_by (bytes_at unit at 16 spec.attribute) (λ (b : List ℕ). sixteen b) v end e in
    let s = bytes_is unit at 16 spec.attribute m.0 end m.1 in
    (m.0, s.0, (s.1, m.2))
read_is (layouts.Counted w kind) form unit at order spec v end e =
    let b = bind_ok (fixed_at unit at w order spec.attribute) (λ (n : ℕ × ℕ). bytes_at unit n.1 n.0
    spec.attribute >>= λ (b : List ℕ × ℕ). Ok (bytes kind b.0, b.1)) (v, end) e in
    let c = fixed_is unit at w order spec.attribute b.0.0 b.0.1 b.1 in
    let m = made_by (bytes_at unit b.0.1 b.0.0 spec.attribute)
    (λ (b : List ℕ). bytes kind b) v end b.2 in
    let s = bytes_is unit b.0.1 b.0.0 spec.attribute m.0 end m.1 in
    (c.0 ++ m.0, join unit at b.0.1 end c.0 m.0 c.1 s.0, (c.0, m.0, refl, c.2, s.1 ∙ c.3, m.2))
read_is (layouts.LebCounted kind) form unit at order spec v end e =
    let b = bind_ok (uleb_at unit at spec.attribute) (λ (n : ℕ × ℕ). bytes_at unit n.1 n.0
    spec.attribute >>= λ (b : List ℕ × ℕ). Ok (bytes kind b.0, b.1)) (v, end) e in
    let d = uleb_is unit at b.0.0 b.0.1 (uleb_at_is unit at spec.attribute b.0.0 b.0.1 b.1) in
    let m = made_by (bytes_at unit b.0.1 b.0.0 spec.attribute)
    (λ (b : List ℕ). bytes kind b) v end b.2 in
    let s = bytes_is unit b.0.1 b.0.0 spec.attribute m.0 end m.1 in (
      d.digits ++ m.0,
      join unit at b.0.1 end d.digits m.0 d.stands s.0,
      (d.digits, m.0, refl, d.leb, d.fits, s.1 ∙ d.is, m.2),
    )
read_is (layouts.Elsewhere w) form unit at order spec v end e =
    let m = made_by (fixed_at unit at w order spec.attribute) (λ (n : ℕ). elsewhere form) v end e in
    let s = fixed_is unit at w order spec.attribute m.0 end m.1 in
    (s.0, s.1, (s.2, m.2))

-- no bytes, which stand not past the unit's end
empty_gives : (unit : List ℕ) (at end attribute : ℕ) (w v : Plain) (piece : List ℕ)
    → end ≤ length unit → Stands unit at piece end → piece ≡ [] → v ≡ w
    → (bytes_at unit at 0 attribute >>= made_from (λ (b : List ℕ). w)) ≡ Ok (v, end)
empty_gives unit at end attribute w v piece le s none is =
    let z : length piece ≡ 0 = ap (λ (xs : List ℕ). length xs) none in
    bind_gives (bytes_at unit at 0 attribute) (made_from (λ (b : List ℕ). w)) (piece, end)
    (bytes_gives unit at 0 attribute piece end (omega (arith, le, s.2)) s z)
    ∙ ap (λ (v : Plain). Ok (v, end)) (sym is)

-- so many bytes after a count: the count lies in the unit
after_count : (unit : List ℕ) (at end : ℕ) (count body : List ℕ) → 1 ≤ length count
    → Stands unit at (count ++ body) end → (at + length count) + length body ≤ length unit
after_count unit at end count body some s =
    let l = length-append count body in
    let f = fits_in unit at end (count ++ body) (omega arith) s in
    omega (arith, f, l)

leb_some : (ds : List ℕ) → IsLeb ds → 1 ≤ length ds
leb_some [] h = elim h [ ]
leb_some (b ∷ bs) h = omega arith

body_gives : (unit : List ℕ) (at end n attribute : ℕ) (kind : BlockClass) (count body : List ℕ)
    → 1 ≤ length count → Stands unit at (count ++ body) end → length body ≡ n
    → (bytes_at unit (at + length count) n attribute >>= made_from (λ (b : List ℕ). bytes kind b))
    ≡ Ok (bytes kind body, end)
body_gives unit at end n attribute kind count body some s l =
    let p = split unit at end count body s in
    let le : (at + length count) + n ≤ length unit =
    omega (arith, after_count unit at end count body some s) in
    bind_gives (bytes_at unit (at + length count) n attribute) (made_from (λ (b : List ℕ). bytes kind
    b)) (body, end) (bytes_gives unit (at + length count) n attribute body end le p.1 l)

pub read_gives : (l : FormLayout) (form : ℕ) (unit : List ℕ) (at : ℕ) (order : Order) (spec : Spec)
    (v : Plain) (end : ℕ) → HasWidths l → end ≤ length unit → Read l form unit at order spec v end
    → read_at l form unit at order spec ≡ Ok (v, end)
unfolding read_at
read_gives (layouts.Fixed w kind) form unit at order spec v end h le r =
    bind_gives (fixed_at unit at w order spec.attribute) (λ (n : ℕ × ℕ). Ok (number kind n.0, n.1))
    (ordered order r.0, end) (fixed_gives unit at w order spec.attribute end r.0 h.0 r.1 r.2.0)
    ∙ ap (λ (v : Plain). Ok (v, end)) (sym r.2.1)
read_gives (layouts.Leb kind) form unit at order spec v end h le r =
    bind_gives (uleb_at unit at spec.attribute) (λ (n : ℕ × ℕ). Ok (number kind n.0, n.1))
    (unsigned_of r.0, end) (uleb_at_gives unit at spec.attribute end r.0 r.1 r.2.0 r.2.1)
    ∙ ap (λ (v : Plain). Ok (v, end)) (sym r.2.2)
read_gives layouts.Signed form unit at order spec v end h le r =
    bind_gives (sleb_at unit at spec.attribute) (λ (n : ℤ × ℕ). Ok (signed n.0, n.1))
    (signed_of r.0, end) (signed_gives unit at spec.attribute end r.0 r.1 r.2.0 r.2.1)
    ∙ ap (λ (v : Plain). Ok (v, end)) (sym r.2.2)
read_gives layouts.Implicit form unit at order spec v end h le r =
    empty_gives unit at end spec.attribute (signed spec.implicit) v r.0 le r.1 r.2.0 r.2.1
read_gives layouts.Flag form unit at order spec v end h le r =
    let l : length r.0 ≡ 1 = ap (λ (xs : List ℕ). length xs) r.2.1 in
    let n : ordered order r.0 ≡ r.2.0 = ap (ordered order) r.2.1 ∙ byte_ordered order r.2.0 in
    bind_gives (fixed_at unit at 1 order spec.attribute)
    (λ (n : ℕ × ℕ). Ok (flag (not (n.0 == 0)), n.1)) (ordered order r.0, end)
    (fixed_gives unit at 1 order spec.attribute end r.0 (omega arith) r.1 l)
    ∙ ap (λ (n : ℕ). Ok (flag (not (n == 0)), end)) n ∙ ap (λ (v : Plain). Ok (v, end)) (sym r.2.2)
read_gives layouts.Present form unit at order spec v end h le r =
    empty_gives unit at end spec.attribute (flag true) v r.0 le r.1 r.2.0 r.2.1
read_gives layouts.Text form unit at order spec v end h le r =
    bind_gives (text_at unit at spec.attribute) (λ (t : List ℕ × ℕ). Ok (text t.0, t.1)) (
      r.2.0,
      end,
    ) (text_at_gives unit at spec.attribute r.2.0 end (subst (λ (xs : List ℕ).
    Stands unit at xs end) r.2.1 r.1) r.2.2) ∙ ap (λ (v : Plain). Ok (v, end)) (sym r.2.3)
read_gives layouts.Sixteen form unit at order spec v end h le r =
    bind_gives (bytes_at unit at 16 spec.attribute) (λ (b : List ℕ × ℕ). Ok (sixteen b.0, b.1)) (
      r.0,
      end,
    ) (bytes_gives unit at 16 spec.attribute r.0 end (omega (arith, le, r.1.2, r.2.0)) r.1 r.2.0)
    ∙ ap (λ (v : Plain). Ok (v, end)) (sym r.2.1)
read_gives (layouts.Counted w kind) form unit at order spec v end h le r =
    let s : Stands unit at (r.2.0 ++ r.2.1) end =
    subst (λ (xs : List ℕ). Stands unit at xs end) r.2.2 r.1 in
    let p = split unit at end r.2.0 r.2.1 s in
    bind_gives (fixed_at unit at w order spec.attribute)
    (λ (n : ℕ × ℕ). bytes_at unit n.1 n.0 spec.attribute >>= λ (b : List ℕ × ℕ).
    Ok (bytes kind b.0, b.1)) (ordered order r.2.0, at + length r.2.0)
    (fixed_gives unit at w order spec.attribute (at + length r.2.0) r.2.0 h.0 p.0 r.2.3)
    ∙ body_gives unit at end (ordered order r.2.0) spec.attribute kind r.2.0 r.2.1
    (omega (arith, h.0, r.2.3)) s r.2.4 ∙ ap (λ (v : Plain). Ok (v, end)) (sym r.2.5)
read_gives (layouts.LebCounted kind) form unit at order spec v end h le r =
    let s : Stands unit at (r.2.0 ++ r.2.1) end =
    subst (λ (xs : List ℕ). Stands unit at xs end) r.2.2 r.1 in
    let p = split unit at end r.2.0 r.2.1 s in
    bind_gives (uleb_at unit at spec.attribute) (λ (n : ℕ × ℕ). bytes_at unit n.1 n.0 spec.attribute
    >>= λ (b : List ℕ × ℕ). Ok (bytes kind b.0, b.1)) (unsigned_of r.2.0, at + length r.2.0)
    (uleb_at_gives unit at spec.attribute (at + length r.2.0) r.2.0 p.0 r.2.3 r.2.4)
    ∙ body_gives unit at end (unsigned_of r.2.0) spec.attribute kind r.2.0 r.2.1
    (leb_some r.2.0 r.2.3) s r.2.5 ∙ ap (λ (v : Plain). Ok (v, end)) (sym r.2.6)
read_gives (layouts.Elsewhere w) form unit at order spec v end h le r =
    bind_gives (fixed_at unit at w order spec.attribute) (λ (n : ℕ × ℕ). Ok (elsewhere form, n.1))
    (ordered order r.0, end) (fixed_gives unit at w order spec.attribute end r.0 h.0 r.1 r.2.0)
    ∙ ap (λ (v : Plain). Ok (v, end)) (sym r.2.1)

-- the form that is used
known_is : (f : ℕ × ℕ) (form mid : ℕ) (t u : Bool) → (f.0 == DW_FORM_indirect) ≡ t
    → (f.0 == DW_FORM_implicit_const) ≡ u → ◌≡◌ {A = Result (ℕ × ℕ) FormFault}
    (if t || u then Err (FormUnknown f.0) else Ok f) (Ok (form, mid))
    → (f.0 ≡ form) × (f.1 ≡ mid) × (f.0 ≢ DW_FORM_indirect) × (f.0 ≢ DW_FORM_implicit_const)
known_is f form mid true u t' u' e = cc
known_is f form mid false true t' u' e = cc
known_is f form mid false false t' u' e = let p = ok_parts {F = FormFault} f.0 form f.1 mid e in
    (p.0, p.1, eqb-false f.0 DW_FORM_indirect t', eqb-false f.0 DW_FORM_implicit_const u')

abbrev pub named_form : List ℕ → ℕ → Spec → Result (ℕ × ℕ) FormFault
named_form unit at spec = uleb_at unit at spec.attribute >>= λ (f : ℕ × ℕ).
    if f.0 == DW_FORM_indirect || f.0 == DW_FORM_implicit_const then Err (FormUnknown f.0) else Ok f

used_test : (c : Within) (spec : Spec) (at form mid : ℕ) (t : Bool)
    → (spec.form == DW_FORM_indirect) ≡ t → (if t then named_form c.unit at spec
    else Ok (spec.form, at)) ≡ Ok (form, mid) → Uses c spec at form mid
used_test c spec at form mid true t e =
    let b = bind_ok (uleb_at c.unit at spec.attribute) (λ (f : ℕ × ℕ). if f.0 == DW_FORM_indirect
    || f.0 == DW_FORM_implicit_const then Err (FormUnknown f.0) else Ok f) (form, mid) e in
    let k = known_is b.0 form mid (b.0.0 == DW_FORM_indirect)
    (b.0.0 == DW_FORM_implicit_const) refl refl b.2 in
    let d = uleb_is c.unit at b.0.0 b.0.1 (uleb_at_is c.unit at spec.attribute b.0.0 b.0.1 b.1) in
    inr (
      eqb-true spec.form DW_FORM_indirect t,
      record {
        digits = d.digits;
        stands = subst (λ (k : ℕ). Stands c.unit at d.digits k) k.1 d.stands;
        leb = d.leb;
        fits = d.fits;
        is = sym k.0 ∙ d.is;
        other = λ (h : form ≡ DW_FORM_indirect). k.2 (k.0 ∙ h);
        read = λ (h : form ≡ DW_FORM_implicit_const). k.3 (k.0 ∙ h);
      },
    )
used_test c spec at form mid false t e = let p = ok_parts {F = FormFault} spec.form form at mid e in
    inl (eqb-false spec.form DW_FORM_indirect t, sym p.0, sym p.1)

pub form_is : (c : Within) (spec : Spec) (at form mid : ℕ) → form_at c.unit at spec ≡ Ok (form, mid)
    → Uses c spec at form mid
unfolding form_at
form_is c spec at form mid e = used_test c spec at form mid (spec.form == DW_FORM_indirect) refl e

pub form_gives : (c : Within) (spec : Spec) (at form mid : ℕ) → Uses c spec at form mid
    → form_at c.unit at spec ≡ Ok (form, mid)
unfolding form_at
form_gives c spec at form mid (inl h) = rw (ne_eqb spec.form DW_FORM_indirect h.0, h.1, h.2) refl
form_gives c spec at form mid (inr h) =
    let n = h.1 in
    let k : (unsigned_of n.digits == DW_FORM_indirect || unsigned_of n.digits
    == DW_FORM_implicit_const) ≡ false = rw (
      ne_eqb (unsigned_of n.digits) DW_FORM_indirect
          (λ (e : unsigned_of n.digits ≡ DW_FORM_indirect). n.other (n.is ∙ e)),
      ne_eqb (unsigned_of n.digits) DW_FORM_implicit_const
          (λ (e : unsigned_of n.digits ≡ DW_FORM_implicit_const). n.read (n.is ∙ e)),
    ) refl in
    ap (λ (t : Bool). if t then named_form c.unit at spec else Ok (spec.form, at))
    (eq-eqb spec.form DW_FORM_indirect h.0)
    ∙ (bind_gives (uleb_at c.unit at spec.attribute) (λ (f : ℕ × ℕ). if f.0 == DW_FORM_indirect
    || f.0 == DW_FORM_implicit_const then Err (FormUnknown f.0) else Ok f) (
      unsigned_of
          n.digits,
      mid,
    ) (uleb_at_gives c.unit at spec.attribute mid n.digits n.stands n.leb n.fits)
    ∙ ap (λ (t : Bool). if t then Err (FormUnknown (unsigned_of n.digits))
    else Ok (unsigned_of n.digits, mid)) k ∙ ap (λ (f : ℕ). Ok (f, mid)) (sym n.is))

-- the value
pub unknown_found : (form : ℕ) (o : Option FormLayout) (l : FormLayout) → or_unknown form o ≡ Ok l
    → o ≡ Some l
unknown_found form None l e = cc
unknown_found form (Some k) l e = let q : k ≡ l = cc in ap (λ z. Some z) q

abbrev pub shown_as : ℕ → Plain → Shown
shown_as form value = record { form = form; value = value }

abbrev pub after_form : Within → Spec → ℕ × ℕ → Result (Shown × ℕ) FormFault
after_form c spec f =
    or_unknown f.0 (layout_of c.offset_bytes c.address_bytes f.0) >>= λ (l : FormLayout).
    read_at l f.0 c.unit f.1 c.order spec >>= λ (v : Plain × ℕ). Ok (shown_as f.0 v.0, v.1)

of_form : (c : Within) (spec : Spec) (form at : ℕ) (v : Shown) (end : ℕ)
    → after_form c spec (form, at) ≡ Ok (v, end) → IsOfForm c spec form at v end
of_form c spec form at v end e =
    let a = bind_ok (or_unknown form (layout_of c.offset_bytes c.address_bytes form))
    (λ (l : FormLayout). read_at l form c.unit at c.order spec >>= λ (v : Plain × ℕ).
    Ok (shown_as form v.0, v.1)) (v, end) e in
    let b = bind_ok (read_at a.0 form c.unit at c.order spec)
    (λ (v : Plain × ℕ). Ok (shown_as form v.0, v.1)) (v, end) a.2 in
    let p = ok_parts {F = FormFault} (shown_as form b.0.0) v b.0.1 end b.2 in
    let r = read_is a.0 form c.unit at c.order spec b.0.0 b.0.1 b.1 in
    record {
      layout = a.0;
      piece = r.0;
      row = unknown_found form (layout_of c.offset_bytes c.address_bytes form) a.0 a.1;
      stands = subst (λ (k : ℕ). Stands c.unit at r.0 k) p.1 r.1;
      means = subst (λ (v : Shown). Means a.0 form c.order spec.implicit r.0 v.value) p.0 r.2;
      named = ap (λ (v : Shown). v.form) (sym p.0);
    }

gives_form : (c : Within) (spec : Spec) (form at : ℕ) (v : Shown) (end : ℕ)
    → ((l : FormLayout) → layout_of c.offset_bytes c.address_bytes form ≡ Some l → HasWidths l)
    → end ≤ length c.unit → IsOfForm c spec form at v end
    → after_form c spec (form, at) ≡ Ok (v, end)
gives_form c spec form at v end wide le i =
    let shown : shown_as form v.value ≡ v = ap (λ (f : ℕ). shown_as f v.value) (sym i.named) in
    bind_gives (or_unknown form (layout_of c.offset_bytes c.address_bytes form))
    (λ (l : FormLayout). read_at l form c.unit at c.order spec >>= λ (v : Plain × ℕ).
    Ok (shown_as form v.0, v.1)) i.layout (ap (or_unknown form) i.row)
    ∙ bind_gives (read_at i.layout form c.unit at c.order spec)
    (λ (v : Plain × ℕ). Ok (shown_as form v.0, v.1)) (v.value, end) (read_gives i.layout form
    c.unit at c.order spec v.value end (wide i.layout i.row) le (i.piece, i.stands, i.means))
    ∙ ap (λ (v : Shown). Ok (v, end)) shown

pub read : (c : Within) (spec : Spec) (at : ℕ) (v : Shown) (end : ℕ)
    → value_of c spec at ≡ Ok (v, end) → IsValue c spec at v end
unfolding value_of
read c spec at v end e =
    let a = bind_ok (form_at c.unit at spec) (after_form c spec) (v, end) e in
    (a.0.0, a.0.1, form_is c spec at a.0.0 a.0.1 a.1, of_form c spec a.0.0 a.0.1 v end a.2)

pub spelled : (c : Within) (spec : Spec) (at : ℕ) (v : Shown) (end : ℕ) → HasWidth c.offset_bytes
    → HasWidth c.address_bytes → end ≤ length c.unit → IsValue c spec at v end
    → value_of c spec at ≡ Ok (v, end)
unfolding value_of
spelled c spec at v end o a le h =
    bind_gives (form_at c.unit at spec) (after_form c spec) (h.0, h.1)
    (form_gives c spec at h.0 h.1 h.2) ∙ gives_form c spec h.0 h.1 v end
    (λ l e. has_widths c.offset_bytes c.address_bytes h.0 l o a e) le h.3
