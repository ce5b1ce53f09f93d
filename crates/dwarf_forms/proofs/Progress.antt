-- The place after a value is not before its own.
use Rattle.std.proofs.Common.{◌≡◌, ℕ, ◌+◌, ◌<◌, ◌≤◌, ◌==◌, ◌||◌, not, ℤ, Bool, true, false, List}
use Rattle.std.proofs.Common.{length, take, drop, nat_le, Option, None, Some, Result, Ok, Err}
use Rattle.std.proofs.Common.{if◌then◌else◌, refl, arith}
use Rattle.dw_base.specs.Leb128.{uleb_of, sleb_of}
use Rattle.dw_base.specs.Numbers.{number_of}
use Rattle.dw_base.specs.Texts.{text_of}
use Rattle.dw_base.specs.declared.numbers.Order.{Order}
use Rattle.dw_base.specs.declared.leb128.LebFault.{LebFault}
use Rattle.dw_base.specs.declared.leb128.LebFault.TheVariants.{Truncated, TooWide}
use Rattle.dw_base.proofs.Ends.{ok_parts, uleb_after, sleb_after}
use Rattle.dwarf_abbrev.specs.declared.constants.TheConstants.{DW_FORM_implicit_const}
use Rattle.dwarf_abbrev.specs.declared.constants.TheConstants.{DW_FORM_indirect}
use Rattle.dwarf_abbrev.specs.declared.spec.Spec.{Spec}
use Rattle.dwarf_forms.specs.declared.fault.FormFault.{FormFault}
use Rattle.dwarf_forms.specs.declared.fault.FormFault.TheVariants.{FormUnknown, ValueTruncated}
use Rattle.dwarf_forms.specs.declared.layout.FormLayout.{FormLayout}
use Rattle.dwarf_forms.specs.declared.layout.FormLayout.TheVariants as layouts
use Rattle.dwarf_forms.specs.Forms.{layout_of}
use Rattle.dwarf_forms.specs.Values.{◌>>=◌, Plain, Shown, Within, or_cut, of_leb, or_unknown}
use Rattle.dwarf_forms.specs.Values.{fixed_at, uleb_at, sleb_at, bytes_at, text_at, read_at, form_at}
use Rattle.dwarf_forms.specs.Values.{value_of}
use Rattle.dwarf_forms.specs.Values.Plain.{number, signed, bytes, sixteen, text, flag, elsewhere}

pub bind_ok : {A B : Type 0} (r : Result A FormFault) (f : A → Result B FormFault) (y : B)
    → (r >>= f) ≡ Ok y → (x : A) × (r ≡ Ok x) × (f x ≡ Ok y)
bind_ok (Ok x) f y e = (x, refl, e)
bind_ok (Err d) f y e = cc

abbrev pub Grows : {A : Type 0} → ℕ → Result (A × ℕ) FormFault → Type 0
Grows {A} at r = (v : A) (end : ℕ) → r ≡ Ok (v, end) → at ≤ end

-- of an answer, and then of what follows it
pub grows_on : {A B : Type 0} (at : ℕ) (r : Result (A × ℕ) FormFault) (f : A × ℕ
    → Result (B × ℕ) FormFault) → Grows at r → ((x : A × ℕ) → Grows x.1 (f x)) → Grows at (r >>= f)
grows_on at r f first after v end e =
    let b = bind_ok r f (v, end) e in
    let p : at ≤ b.0.1 = first b.0.0 b.0.1 b.1 in
    let q : b.0.1 ≤ end = after b.0 v end b.2 in
    omega arith

pub ends : {A : Type 0} (at : ℕ) (v : A) (end : ℕ) → at ≤ end → Grows at (Ok (v, end))
ends at v end le w to e = let p = ok_parts {F = FormFault} v w end to e in omega (arith, p.1)

cut_grows : {A B : Type 0} (at attribute : ℕ) (o : Option A) (f : A → Result (B × ℕ) FormFault)
    → ((x : A) → Grows at (f x)) → Grows at (or_cut attribute o >>= f)
cut_grows at attribute None f g v end e = cc
cut_grows at attribute (Some x) f g v end e = g x v end e

pub fixed_grows : (unit : List ℕ) (at w : ℕ) (order : Order) (attribute : ℕ)
    → Grows at (fixed_at unit at w order attribute)
unfolding fixed_at
fixed_grows unit at w order attribute = cut_grows at attribute (number_of unit at w order)
    (λ (n : ℕ). Ok (n, at + w)) (λ (n : ℕ). ends at n (at + w) (omega arith))

text_grows : (unit : List ℕ) (at attribute : ℕ) → Grows at (text_at unit at attribute)
unfolding text_at
text_grows unit at attribute = cut_grows at attribute (text_of unit at) (λ (t : List ℕ).
    Ok (t, at + length t + 1)) (λ (t : List ℕ). ends at t (at + length t + 1) (omega arith))

leb_grows : {A : Type 0} (at attribute : ℕ) (r : Result (A × ℕ) LebFault)
    → ((v : A) (end : ℕ) → r ≡ Ok (v, end) → at < end) → Grows at (of_leb at attribute r)
leb_grows at attribute (Ok x) f v end e =
    let p = ok_parts {F = FormFault} x.0 v x.1 end e in
    let q = f x.0 x.1 refl in
    omega (arith, p.1)
leb_grows at attribute (Err Truncated) f v end e = cc
leb_grows at attribute (Err TooWide) f v end e = cc

pub uleb_grows : (unit : List ℕ) (at attribute : ℕ) → Grows at (uleb_at unit at attribute)
unfolding uleb_at
uleb_grows unit at attribute = leb_grows at attribute (uleb_of unit at)
    (λ (v end : ℕ) (e : uleb_of unit at ≡ Ok (v, end)). (uleb_after unit at v end e).0)

sleb_grows : (unit : List ℕ) (at attribute : ℕ) → Grows at (sleb_at unit at attribute)
unfolding sleb_at
sleb_grows unit at attribute = leb_grows at attribute (sleb_of unit at)
    (λ (v : ℤ) (end : ℕ) (e : sleb_of unit at ≡ Ok (v, end)). (sleb_after unit at v end e).0)

bytes_test : (unit : List ℕ) (at count attribute : ℕ) (t : Bool) → Grows at
    (if t then Ok (take count (drop at unit), at + count) else Err (ValueTruncated attribute))
bytes_test unit at count attribute true v end e =
    ends at (take count (drop at unit)) (at + count) (omega arith) v end e
bytes_test unit at count attribute false v end e = cc

bytes_grows : (unit : List ℕ) (at count attribute : ℕ) → Grows at (bytes_at unit at count attribute)
unfolding bytes_at
bytes_grows unit at count attribute =
    bytes_test unit at count attribute (nat_le (at + count) (length unit))

pub read_grows : (l : FormLayout) (form : ℕ) (unit : List ℕ) (at : ℕ) (order : Order) (spec : Spec)
    → Grows at (read_at l form unit at order spec)
unfolding read_at
read_grows (layouts.Fixed w kind) form unit at order spec =
    grows_on at (fixed_at unit at w order spec.attribute)
    (λ (n : ℕ × ℕ). Ok (number kind n.0, n.1)) (fixed_grows unit at w order spec.attribute)
    (λ (n : ℕ × ℕ). ends n.1 (number kind n.0) n.1 (omega arith))
read_grows (layouts.Leb kind) form unit at order spec = grows_on at (uleb_at unit at spec.attribute)
    (λ (n : ℕ × ℕ). Ok (number kind n.0, n.1)) (uleb_grows unit at spec.attribute)
    (λ (n : ℕ × ℕ). ends n.1 (number kind n.0) n.1 (omega arith))
read_grows layouts.Signed form unit at order spec =
    grows_on at (sleb_at unit at spec.attribute) (λ (n : ℤ × ℕ). Ok (signed n.0, n.1))
    (sleb_grows unit at spec.attribute) (λ (n : ℤ × ℕ). ends n.1 (signed n.0) n.1 (omega arith))
read_grows layouts.Implicit form unit at order spec =
    grows_on at (bytes_at unit at 0 spec.attribute)
    (λ (b : List ℕ × ℕ). Ok (signed spec.implicit, b.1)) (bytes_grows unit at 0 spec.attribute)
    (λ (b : List ℕ × ℕ). ends b.1 (signed spec.implicit) b.1 (omega arith))
read_grows layouts.Flag form unit at order spec =
    grows_on at (fixed_at unit at 1 order spec.attribute)
    (λ (n : ℕ × ℕ). Ok (flag (not (n.0 == 0)), n.1)) (fixed_grows unit at 1 order spec.attribute)
    (λ (n : ℕ × ℕ). ends n.1 (flag (not (n.0 == 0))) n.1 (omega arith))
read_grows layouts.Present form unit at order spec =
    grows_on at (bytes_at unit at 0 spec.attribute) (λ (b : List ℕ × ℕ). Ok (flag true, b.1))
    (bytes_grows unit at 0 spec.attribute)
    (λ (b : List ℕ × ℕ). ends b.1 (flag true) b.1 (omega arith))
read_grows layouts.Text form unit at order spec =
    grows_on at (text_at unit at spec.attribute) (λ (t : List ℕ × ℕ). Ok (text t.0, t.1))
    (text_grows unit at spec.attribute) (λ (t : List ℕ × ℕ). ends t.1 (text t.0) t.1 (omega arith))
read_grows layouts.Sixteen form unit at order spec = grows_on at (bytes_at unit at 16 spec.attribute)
    (λ (b : List ℕ × ℕ). Ok (sixteen b.0, b.1)) (bytes_grows unit at 16 spec.attribute)
    (λ (b : List ℕ × ℕ). ends b.1 (sixteen b.0) b.1 (omega arith))
read_grows (layouts.Counted w kind) form unit at order spec =
    grows_on at (fixed_at unit at w order spec.attribute)
    (λ (n : ℕ × ℕ). bytes_at unit n.1 n.0 spec.attribute >>= λ (b : List ℕ × ℕ).
    Ok (bytes kind b.0, b.1)) (fixed_grows unit at w order spec.attribute)
    (λ (n : ℕ × ℕ). grows_on n.1 (bytes_at unit n.1 n.0 spec.attribute)
    (λ (b : List ℕ × ℕ). Ok (bytes kind b.0, b.1)) (bytes_grows unit n.1 n.0 spec.attribute)
    (λ (b : List ℕ × ℕ). ends b.1 (bytes kind b.0) b.1 (omega arith)))
read_grows (layouts.LebCounted kind) form unit at order spec =
    grows_on at (uleb_at unit at spec.attribute) (λ (n : ℕ × ℕ). bytes_at unit n.1 n.0 spec.attribute
    >>= λ (b : List ℕ × ℕ). Ok (bytes kind b.0, b.1)) (uleb_grows unit at spec.attribute)
    (λ (n : ℕ × ℕ). grows_on n.1 (bytes_at unit n.1 n.0 spec.attribute)
    (λ (b : List ℕ × ℕ). Ok (bytes kind b.0, b.1)) (bytes_grows unit n.1 n.0 spec.attribute)
    (λ (b : List ℕ × ℕ). ends b.1 (bytes kind b.0) b.1 (omega arith)))
read_grows (layouts.Elsewhere w) form unit at order spec = grows_on at
    (fixed_at unit at w order spec.attribute) (λ (n : ℕ × ℕ). Ok (elsewhere form, n.1)) (fixed_grows
    unit at w order spec.attribute) (λ (n : ℕ × ℕ). ends n.1 (elsewhere form) n.1 (omega arith))

known : (at : ℕ) (f : ℕ × ℕ) (t : Bool) → at ≤ f.1
    → Grows at (if t then Err (FormUnknown f.0) else Ok f)
known at f true le v end e = cc
known at f false le v end e = let p = ok_parts {F = FormFault} f.0 v f.1 end e in omega (arith, p.1)

form_test : (unit : List ℕ) (at : ℕ) (spec : Spec) (t : Bool) → Grows at
    (if t then (uleb_at unit at spec.attribute >>= λ (f : ℕ × ℕ). if f.0 == DW_FORM_indirect || f.0
    == DW_FORM_implicit_const then Err (FormUnknown f.0) else Ok f) else Ok (spec.form, at))
form_test unit at spec true = grows_on at (uleb_at unit at spec.attribute)
    (λ (f : ℕ × ℕ). if f.0 == DW_FORM_indirect || f.0 == DW_FORM_implicit_const
    then Err (FormUnknown f.0) else Ok f) (uleb_grows unit at spec.attribute) (λ (f : ℕ × ℕ).
    known f.1 f (f.0 == DW_FORM_indirect || f.0 == DW_FORM_implicit_const) (omega arith))
form_test unit at spec false = ends at spec.form at (omega arith)

form_grows : (unit : List ℕ) (at : ℕ) (spec : Spec) → Grows at (form_at unit at spec)
unfolding form_at
form_grows unit at spec = form_test unit at spec (spec.form == DW_FORM_indirect)

unknown_grows : {B : Type 0} (at form : ℕ) (o : Option FormLayout) (f : FormLayout → Result
    (B × ℕ) FormFault) → ((l : FormLayout) → Grows at (f l)) → Grows at (or_unknown form o >>= f)
unknown_grows at form None f g v end e = cc
unknown_grows at form (Some l) f g v end e = g l v end e

abbrev shown_as : ℕ → Plain → Shown
shown_as form value = record { form = form; value = value }

pub value_grows : (c : Within) (spec : Spec) (at : ℕ) → Grows at (value_of c spec at)
unfolding value_of
value_grows c spec at =
    grows_on at (form_at c.unit at spec) (λ (f : ℕ × ℕ). or_unknown f.0
    (layout_of c.offset_bytes c.address_bytes f.0) >>= λ (l : FormLayout). read_at l f.0 c.unit f.1
    c.order spec >>= λ (v : Plain × ℕ). Ok (record { form = f.0; value = v.0 }, v.1))
    (form_grows c.unit at spec)
    (λ (f : ℕ × ℕ). unknown_grows f.1 f.0 (layout_of c.offset_bytes c.address_bytes f.0)
    (λ (l : FormLayout). read_at l f.0 c.unit f.1 c.order spec >>= λ (v : Plain × ℕ).
    Ok (record { form = f.0; value = v.0 }, v.1))
    (λ (l : FormLayout). grows_on f.1 (read_at l f.0 c.unit f.1 c.order spec) (λ (v : Plain × ℕ).
    Ok (record { form = f.0; value = v.0 }, v.1)) (read_grows l f.0 c.unit f.1 c.order spec)
    (λ (v : Plain × ℕ). ends v.1 (shown_as f.0 v.0) v.1 (omega arith))))
