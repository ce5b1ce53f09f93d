-- A value of a form of fixed width ends so many bytes on, or is cut off.
use Rattle.std.proofs.Common.{◌≡◌, ℕ, ◌+◌, ◌≤◌, ◌==◌, not, map, if◌then◌else◌, Bool, true}
use Rattle.std.proofs.Common.{false, List, [], ◌∷◌, length, take, drop, Option, None, Some, Result}
use Rattle.std.proofs.Common.{Ok, refl, sym, ap, ◌∙◌, arith}
use Rattle.std.proofs.lemmas.Bool.{le-leb, eqb-true}
use Rattle.std.specs.Map.{lookup}
use Rattle.std.specs.Option.{option_map}
use Rattle.std.proofs.lemmas.Option.{same_Some}
use Rattle.dw_base.specs.Numbers.{number_of, ordered}
use Rattle.dw_base.specs.declared.numbers.Order.{Order}
use Rattle.dwarf_abbrev.specs.declared.constants.TheConstants.{DW_FORM_indirect}
use Rattle.dwarf_abbrev.specs.declared.size.Width.{Width}
use Rattle.dwarf_abbrev.specs.declared.spec.Spec.{Spec}
use Rattle.dwarf_abbrev.specs.Sizes.{widths, of_row, width_in, bytes_of}
use Rattle.dwarf_forms.specs.declared.fault.FormFault.{FormFault}
use Rattle.dwarf_forms.specs.declared.layout.FormLayout.{FormLayout}
use Rattle.dwarf_forms.specs.declared.layout.FormLayout.TheVariants.{Fixed, Leb, Signed, Implicit}
use Rattle.dwarf_forms.specs.declared.layout.FormLayout.TheVariants.{Flag}
use Rattle.dwarf_forms.specs.declared.layout.FormLayout.TheVariants.{Present, Text, Sixteen}
use Rattle.dwarf_forms.specs.declared.layout.FormLayout.TheVariants.{Counted}
use Rattle.dwarf_forms.specs.declared.layout.FormLayout.TheVariants.{LebCounted, Elsewhere}
use Rattle.dwarf_forms.specs.Forms.{rows, layout_of}
use Rattle.dwarf_forms.specs.Values.{◌>>=◌, Plain, number, signed, sixteen, flag, elsewhere}
use Rattle.dwarf_forms.specs.Values.{Shown, Within}
use Rattle.dwarf_forms.specs.Values.{fixed_at, bytes_at, read_at, form_at, value_of}
use Rattle.dwarf_forms.specs.Sizes.{size_of_layout, size_in, WidthsAreOfLayouts}
use Rattle.dwarf_forms.proofs.Spelled.{made_from}

-- the two tables have the same rows: both give what stands in a table of numbers of bytes
abbrev of_bytes : Option (Option ℕ) → Option ℕ
of_bytes None = None
of_bytes (Some n) = n

abbrev by_width : ℕ → ℕ → ℕ × Option Width → ℕ × Option ℕ
by_width o a r = (r.0, option_map (width_in o a) r.1)

abbrev by_row : ℕ × FormLayout → ℕ × Option ℕ
by_row r = (r.0, size_of_layout r.1)

one_width : (o a : ℕ) (t : Bool) (w : Option Width) (x : Option (Option Width))
    (y : Option (Option ℕ)) → option_map (width_in o a) (of_row x) ≡ of_bytes y
    → option_map (width_in o a) (of_row (if t then Some w else x))
    ≡ of_bytes (if t then Some (option_map (width_in o a) w) else y)
one_width o a true w x y ih = refl
one_width o a false w x y ih = ih

found_width : (o a : ℕ) (test : ℕ → Bool) (ws : List (ℕ × Option Width)) → option_map (width_in o a)
    (of_row (lookup test ws)) ≡ of_bytes (lookup test (map (by_width o a) ws))
found_width o a test [] = refl
found_width o a test (w ∷ ws) = one_width o a (test w.0) w.1 (lookup test ws)
    (lookup test (map (by_width o a) ws)) (found_width o a test ws)

one_layout : (t : Bool) (l : FormLayout) (x : Option FormLayout) (y : Option (Option ℕ))
    → size_in x ≡ of_bytes y
    → size_in (if t then Some l else x) ≡ of_bytes (if t then Some (size_of_layout l) else y)
one_layout true l x y ih = refl
one_layout false l x y ih = ih

found_layout : (test : ℕ → Bool) (ls : List (ℕ × FormLayout))
    → size_in (lookup test ls) ≡ of_bytes (lookup test (map by_row ls))
found_layout test [] = refl
found_layout test (l ∷ ls) =
    one_layout (test l.0) l.1 (lookup test ls) (lookup test (map by_row ls)) (found_layout test ls)

same_rows : (o a : ℕ) → map (by_width o a) widths ≡ map by_row (rows o a)
same_rows o a = refl

pub widths_agree : WidthsAreOfLayouts
widths_agree o a form =
    found_width o a (λ (f : ℕ). form == f) widths ∙ ap
    (λ (rs : List (ℕ × Option ℕ)). of_bytes (lookup (λ (f : ℕ). form == f) rs)) (same_rows o a)
    ∙ sym (found_layout (λ (f : ℕ). form == f) (rows o a))

-- the value of a layout, and the place after it, where its bytes lie in the unit
pub fixed_ends : (unit : List ℕ) (at w : ℕ) (order : Order) (attribute : ℕ) → at + w ≤ length unit
    → (n : ℕ) × (fixed_at unit at w order attribute ≡ Ok (n, at + w))
unfolding fixed_at number_of
fixed_ends unit at w order attribute le =
    (ordered order (take w (drop at unit)), rw (le-leb (at + w) (length unit) le) refl)

pub bytes_ends : (unit : List ℕ) (at w attribute : ℕ) → at + w ≤ length unit
    → bytes_at unit at w attribute ≡ Ok (take w (drop at unit), at + w)
unfolding bytes_at
bytes_ends unit at w attribute le = rw (le-leb (at + w) (length unit) le) refl

ends_as : (v : Plain) (a b : ℕ) → a ≡ b
    → ◌≡◌ {A = Result (Plain × ℕ) FormFault} (Ok (v, a)) (Ok (v, b))
ends_as v a b e = ap (λ (n : ℕ). Ok (v, n)) e

empty_ends : (unit : List ℕ) (at w attribute : ℕ) (v : Plain) → 0 ≡ w → at + w ≤ length unit
    → (u : Plain) × ((bytes_at unit at 0 attribute >>= made_from (λ (b : List ℕ). v))
    ≡ Ok (u, at + w))
empty_ends unit at w attribute v e le = (
  v,
  rw (bytes_ends unit at 0 attribute (omega (arith, e, le)))
      (ends_as v (at + 0) (at + w) (ap (λ (n : ℕ). at + n) e)),
)

read_ends : (l : FormLayout) (form : ℕ) (unit : List ℕ) (at w : ℕ) (order : Order) (s : Spec)
    → size_of_layout l ≡ Some w → at + w ≤ length unit
    → (v : Plain) × (read_at l form unit at order s ≡ Ok (v, at + w))
unfolding read_at
read_ends (Fixed v kind) form unit at w order s size le =
    let e : v ≡ w = same_Some v w size in
    let f = fixed_ends unit at v order s.attribute (omega (arith, e, le)) in (
      number kind f.0,
      rw f.1 (ends_as (number kind f.0) (at + v) (at + w) (ap (λ (n : ℕ). at + n) e)),
    )
read_ends (Leb kind) form unit at w order s size le = cc
read_ends Signed form unit at w order s size le = cc
read_ends Implicit form unit at w order s size le =
    empty_ends unit at w s.attribute (signed s.implicit) (same_Some 0 w size) le
read_ends Flag form unit at w order s size le =
    let e : 1 ≡ w = same_Some 1 w size in
    let f = fixed_ends unit at 1 order s.attribute (omega (arith, e, le)) in (
      flag (not (f.0 == 0)),
      rw f.1 (ends_as (flag (not (f.0 == 0))) (at + 1) (at + w) (ap (λ (n : ℕ). at + n) e)),
    )
read_ends Present form unit at w order s size le =
    empty_ends unit at w s.attribute (flag true) (same_Some 0 w size) le
read_ends Text form unit at w order s size le = cc
read_ends Sixteen form unit at w order s size le =
    let e : 16 ≡ w = same_Some 16 w size in
    let b = take 16 (drop at unit) in (
      sixteen b,
      rw (bytes_ends unit at 16 s.attribute (omega (arith, e, le)))
          (ends_as (sixteen b) (at + 16) (at + w) (ap (λ (n : ℕ). at + n) e)),
    )
read_ends (Counted v kind) form unit at w order s size le = cc
read_ends (LebCounted kind) form unit at w order s size le = cc
read_ends (Elsewhere v) form unit at w order s size le =
    let e : v ≡ w = same_Some v w size in
    let f = fixed_ends unit at v order s.attribute (omega (arith, e, le)) in
    (elsewhere form, rw f.1 (ends_as (elsewhere form) (at + v) (at + w) (ap (λ (n : ℕ). at + n) e)))

-- a form of a fixed size is not the indirect one, whose row the table lacks
pub direct : (o a form : ℕ) (w : ℕ) (t : Bool) → (form == DW_FORM_indirect) ≡ t
    → bytes_of o a form ≡ Some w → t ≡ false
direct o a form w true e h = let is : form ≡ DW_FORM_indirect = eqb-true form DW_FORM_indirect e in
    let k : bytes_of o a DW_FORM_indirect ≡ Some w =
    ap (λ (f : ℕ). bytes_of o a f) (sym is) ∙ h in cc
direct o a form w false e h = refl

pub form_used : (unit : List ℕ) (at : ℕ) (s : Spec) → (s.form == DW_FORM_indirect) ≡ false
    → form_at unit at s ≡ Ok (s.form, at)
unfolding form_at
form_used unit at s h = rw h refl

by_layout : (c : Within) (s : Spec) (at w : ℕ) (o : Option FormLayout) → layout_of c.offset_bytes
    c.address_bytes s.form ≡ o → size_in o ≡ Some w → (s.form == DW_FORM_indirect) ≡ false
    → at + w ≤ length c.unit → (v : Shown) × (value_of c s at ≡ Ok (v, at + w))
unfolding value_of
by_layout c s at w None row size used le = cc
by_layout c s at w (Some l) row size used le =
    let r = read_ends l s.form c.unit at w c.order s size le in
    (record { form = s.form; value = r.0 }, rw (form_used c.unit at s used, row, r.1) refl)

pub value_fixed : (c : Within) (s : Spec) (at w : ℕ) → bytes_of c.offset_bytes c.address_bytes
    s.form ≡ Some w → at + w ≤ length c.unit → (v : Shown) × (value_of c s at ≡ Ok (v, at + w))
value_fixed c s at w size le = by_layout c s at w (layout_of c.offset_bytes c.address_bytes s.form)
    refl (sym (widths_agree c.offset_bytes c.address_bytes s.form) ∙ size)
    (direct c.offset_bytes c.address_bytes s.form w (s.form == DW_FORM_indirect) refl size) le
