-- What is read stands in the unit: it begins and ends not past the unit's end.
use Rattle.std.proofs.Common.{◌≡◌, ℕ, ◌+◌, ◌≤◌, not, ◌==◌, ℤ, Bool, true, false, List, [], ◌∷◌}
use Rattle.std.proofs.Common.{◌++◌, length, take, drop, nat_le, Result, Ok, Err, if◌then◌else◌}
use Rattle.std.proofs.Common.{refl, sym, subst, arith}
use Rattle.std.proofs.lemmas.Bool.{leb-true}
use Rattle.dw_base.specs.Numbers.{number_of}
use Rattle.dw_base.specs.declared.numbers.Order.{Order}
use Rattle.dw_base.proofs.Ends.{ok_parts, uleb_after, sleb_after}
use Rattle.dw_base.proofs.Numbering.{number_within}
use Rattle.dwarf_abbrev.specs.declared.spec.Spec.{Spec}
use Rattle.dwarf_forms.specs.declared.fault.FormFault.{FormFault}
use Rattle.dwarf_forms.specs.declared.fault.FormFault.TheVariants.{ValueTruncated}
use Rattle.dwarf_forms.specs.declared.layout.FormLayout.{FormLayout}
use Rattle.dwarf_forms.specs.declared.layout.FormLayout.TheVariants as layouts
use Rattle.dwarf_forms.specs.Forms.{layout_of}
use Rattle.dwarf_forms.specs.Values.{◌>>=◌, Plain, Shown, Within, or_cut, or_unknown, fixed_at}
use Rattle.dwarf_forms.specs.Values.{uleb_at, sleb_at, bytes_at, text_at, read_at, form_at, value_of, end_of}
use Rattle.dwarf_forms.specs.Values.Plain.{number, signed, bytes, sixteen, text, flag, elsewhere}
use Rattle.dwarf_forms.specs.Standard.{IsValueIn}
use Rattle.dwarf_forms.specs.Law.{Reads, Skips}
use Rattle.dwarf_forms.proofs.Progress.{bind_ok, value_grows}
use Rattle.dwarf_forms.proofs.Pieces.{fits_in, nul_length}
use Rattle.dwarf_forms.proofs.Spelled.{cut_found, made_by, uleb_at_is, sleb_at_is, text_at_is}
use Rattle.dwarf_forms.proofs.Spelled.{after_form, shown_as, read}
use Rattle.dwarf_forms.proofs.Refused.{refused}

fixed_within : (unit : List ℕ) (at w : ℕ) (order : Order) (attribute n end : ℕ)
    → fixed_at unit at w order attribute ≡ Ok (n, end) → end ≤ length unit
unfolding fixed_at
fixed_within unit at w order attribute n end e =
    let b = bind_ok (or_cut attribute (number_of unit at w order))
    (λ (n : ℕ). Ok (n, at + w)) (n, end) e in
    let o = cut_found attribute (number_of unit at w order) b.0 b.1 in
    let p = ok_parts {F = FormFault} b.0 n (at + w) end b.2 in
    omega (arith, number_within unit at w b.0 order o, p.1)

bytes_test : (unit : List ℕ) (at count attribute : ℕ) (bs : List ℕ) (end : ℕ) (t : Bool)
    → nat_le (at + count) (length unit) ≡ t → ◌≡◌ {A = Result (List ℕ × ℕ) FormFault} (if t then Ok
    (take count (drop at unit), at + count) else Err (ValueTruncated attribute)) (Ok (bs, end))
    → end ≤ length unit
bytes_test unit at count attribute bs end true t e =
    let p = ok_parts {F = FormFault} (take count (drop at unit)) bs (at + count) end e in
    omega (arith, leb-true (at + count) (length unit) t, p.1)
bytes_test unit at count attribute bs end false t e = cc

bytes_within : (unit : List ℕ) (at count attribute : ℕ) (bs : List ℕ) (end : ℕ)
    → bytes_at unit at count attribute ≡ Ok (bs, end) → end ≤ length unit
unfolding bytes_at
bytes_within unit at count attribute bs end e =
    bytes_test unit at count attribute bs end (nat_le (at + count) (length unit)) refl e

text_within : (unit : List ℕ) (at attribute : ℕ) (u : List ℕ) (end : ℕ)
    → text_at unit at attribute ≡ Ok (u, end) → end ≤ length unit
text_within unit at attribute u end e =
    let s = text_at_is unit at attribute u end e in
    let f = fits_in unit at end (u ++ 0 ∷ []) (omega (arith, nul_length u)) s.0 in
    omega (arith, f, s.0.2)

read_within : (l : FormLayout) (form : ℕ) (unit : List ℕ) (at : ℕ) (order : Order) (spec : Spec)
    (v : Plain) (end : ℕ) → read_at l form unit at order spec ≡ Ok (v, end) → end ≤ length unit
unfolding read_at
read_within (layouts.Fixed w kind) form unit at order spec v end e =
    let m = made_by (fixed_at unit at w order spec.attribute) (λ (n : ℕ). number kind n) v end e in
    fixed_within unit at w order spec.attribute m.0 end m.1
read_within (layouts.Leb kind) form unit at order spec v end e =
    let m = made_by (uleb_at unit at spec.attribute) (λ (n : ℕ). number kind n) v end e in
    (uleb_after unit at m.0 end (uleb_at_is unit at spec.attribute m.0 end m.1)).1
read_within layouts.Signed form unit at order spec v end e =
    let m = made_by (sleb_at unit at spec.attribute) (λ (n : ℤ). signed n) v end e in
    (sleb_after unit at m.0 end (sleb_at_is unit at spec.attribute m.0 end m.1)).1
read_within layouts.Implicit form unit at order spec v end e =
    let m = made_by (bytes_at unit at 0 spec.attribute)
    (λ (b : List ℕ). signed spec.implicit) v end e in
    bytes_within unit at 0 spec.attribute m.0 end m.1
read_within layouts.Flag form unit at order spec v end e =
    let m = made_by (fixed_at unit at 1 order spec.attribute)
    (λ (n : ℕ). flag (not (n == 0))) v end e in
    fixed_within unit at 1 order spec.attribute m.0 end m.1
read_within layouts.Present form unit at order spec v end e =
    let m = made_by (bytes_at unit at 0 spec.attribute) (λ (b : List ℕ). flag true) v end e in
    bytes_within unit at 0 spec.attribute m.0 end m.1
read_within layouts.Text form unit at order spec v end e =
    let m = made_by (text_at unit at spec.attribute) (λ (t : List ℕ). text t) v end e in
    text_within unit at spec.attribute m.0 end m.1
read_within layouts.Sixteen form unit at order spec v end e =
    let m = made_by (bytes_at unit at 16 spec.attribute) (λ (b : List ℕ). sixteen b) v end e in
    bytes_within unit at 16 spec.attribute m.0 end m.1
read_within (layouts.Counted w kind) form unit at order spec v end e =
    let b = bind_ok (fixed_at unit at w order spec.attribute) (λ (n : ℕ × ℕ). bytes_at unit n.1 n.0
    spec.attribute >>= λ (b : List ℕ × ℕ). Ok (bytes kind b.0, b.1)) (v, end) e in
    let m = made_by (bytes_at unit b.0.1 b.0.0 spec.attribute)
    (λ (b : List ℕ). bytes kind b) v end b.2 in
    bytes_within unit b.0.1 b.0.0 spec.attribute m.0 end m.1
read_within (layouts.LebCounted kind) form unit at order spec v end e =
    let b = bind_ok (uleb_at unit at spec.attribute) (λ (n : ℕ × ℕ). bytes_at unit n.1 n.0
    spec.attribute >>= λ (b : List ℕ × ℕ). Ok (bytes kind b.0, b.1)) (v, end) e in
    let m = made_by (bytes_at unit b.0.1 b.0.0 spec.attribute)
    (λ (b : List ℕ). bytes kind b) v end b.2 in
    bytes_within unit b.0.1 b.0.0 spec.attribute m.0 end m.1
read_within (layouts.Elsewhere w) form unit at order spec v end e =
    let m = made_by (fixed_at unit at w order spec.attribute) (λ (n : ℕ). elsewhere form) v end e in
    fixed_within unit at w order spec.attribute m.0 end m.1

form_within : (c : Within) (spec : Spec) (form at : ℕ) (v : Shown) (end : ℕ)
    → after_form c spec (form, at) ≡ Ok (v, end) → end ≤ length c.unit
form_within c spec form at v end e =
    let a = bind_ok (or_unknown form (layout_of c.offset_bytes c.address_bytes form))
    (λ (l : FormLayout). read_at l form c.unit at c.order spec >>= λ (v : Plain × ℕ).
    Ok (shown_as form v.0, v.1)) (v, end) e in
    let b = bind_ok (read_at a.0 form c.unit at c.order spec)
    (λ (v : Plain × ℕ). Ok (shown_as form v.0, v.1)) (v, end) a.2 in
    let p = ok_parts {F = FormFault} (shown_as form b.0.0) v b.0.1 end b.2 in
    omega (arith, read_within a.0 form c.unit at c.order spec b.0.0 b.0.1 b.1, p.1)

pub value_within : (c : Within) (spec : Spec) (at : ℕ) (v : Shown) (end : ℕ)
    → value_of c spec at ≡ Ok (v, end) → end ≤ length c.unit
unfolding value_of
value_within c spec at v end e =
    let a = bind_ok (form_at c.unit at spec) (after_form c spec) (v, end) e in
    form_within c spec a.0.0 a.0.1 v end a.2

pub stands : (c : Within) (spec : Spec) (at : ℕ) (v : Shown) (end : ℕ)
    → value_of c spec at ≡ Ok (v, end) → IsValueIn c spec at v end
stands c spec at v end e =
    let le : end ≤ length c.unit = value_within c spec at v end e in
    let grows : at ≤ end = value_grows c spec at v end e in
    (read c spec at v end e, omega (arith, le, grows), le)

-- in the standard's words
pub reads : (c : Within) (spec : Spec) (at : ℕ) (r : Result (Shown × ℕ) FormFault)
    → r ≡ value_of c spec at → Reads c spec at r
reads c spec at (Ok x) e = stands c spec at x.0 x.1 (sym e)
reads c spec at (Err f) e = refused c spec at f (sym e)

skips_of : (c : Within) (spec : Spec) (at : ℕ) (q : Result (Shown × ℕ) FormFault)
    → value_of c spec at ≡ q → Skips c spec at (end_of q)
skips_of c spec at (Ok x) e = (x.0, stands c spec at x.0 x.1 e)
skips_of c spec at (Err f) e = refused c spec at f e

pub skips : (c : Within) (spec : Spec) (at : ℕ) (r : Result ℕ FormFault)
    → r ≡ end_of (value_of c spec at) → Skips c spec at r
skips c spec at r e =
    subst (Skips c spec at) (sym e) (skips_of c spec at (value_of c spec at) refl)
