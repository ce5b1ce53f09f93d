-- Values of forms, over the bytes of a unit: what stands at a place, the place after it, and the
-- first fault.
use Rattle.std.specs.Prelude.{ℕ, ◌+◌, ℤ, Bool, true, not, List, length, take, drop, nat_le}
use Rattle.std.specs.Prelude.{Option, None, Some, Result, Ok, Err, ◌==◌, ◌||◌, if◌then◌else◌}
use Rattle.dw_base.specs.Leb128.{uleb_of, sleb_of}
use Rattle.dw_base.specs.Numbers.{number_of}
use Rattle.dw_base.specs.Texts.{text_of}
use Rattle.dw_base.specs.declared.numbers.Order.{Order}
use Rattle.dw_base.specs.declared.leb128.LebFault.{LebFault}
use Rattle.dw_base.specs.declared.leb128.LebFault.TheVariants.{Truncated, TooWide}
use Rattle.dwarf_abbrev.specs.declared.constants.TheConstants.{DW_FORM_implicit_const}
use Rattle.dwarf_abbrev.specs.declared.constants.TheConstants.{DW_FORM_indirect}
use Rattle.dwarf_abbrev.specs.declared.spec.Spec.{Spec}
use Rattle.dwarf_forms.specs.declared.fault.FormFault.{FormFault}
use Rattle.dwarf_forms.specs.declared.fault.FormFault.TheVariants.{LebWide, FormUnknown}
use Rattle.dwarf_forms.specs.declared.fault.FormFault.TheVariants.{ValueTruncated}
use Rattle.dwarf_forms.specs.declared.layout.FormLayout.{FormLayout}
use Rattle.dwarf_forms.specs.declared.layout.FormLayout.TheVariants as layouts
use Rattle.dwarf_forms.specs.declared.layout.NumberClass.{NumberClass}
use Rattle.dwarf_forms.specs.declared.layout.NumberClass.TheVariants as kinds
use Rattle.dwarf_forms.specs.declared.layout.BlockClass.{BlockClass}
use Rattle.dwarf_forms.specs.declared.layout.BlockClass.TheVariants as holds
use Rattle.dwarf_forms.specs.declared.given.FormCtx.{FormCtx}
use Rattle.dwarf_forms.specs.declared.given.Given.{Given}
use Rattle.dwarf_forms.specs.declared.given.FormValue.{FormValue}
use Rattle.dwarf_forms.specs.declared.given.FormValue.TheVariants as values
use Rattle.dwarf_forms.specs.Forms.{layout_of}

infixl 10 ◌>>=◌
abbrev pub ◌>>=◌ : {A B : Type 0} → Result A FormFault → (A → Result B FormFault)
    → Result B FormFault
(Ok x) >>= f = f x
(Err e) >>= f = Err e

-- an answer, seen by view
abbrev pub seen : {A B : Type 0} → (A → B) → Result A FormFault → Result B FormFault
seen view (Ok x) = Ok (view x)
seen view (Err e) = Err e

-- a value without where it lies in memory
pub data Plain : Type 0 where
  number : NumberClass → ℕ → Plain
  signed : ℤ → Plain
  bytes : BlockClass → List ℕ → Plain
  sixteen : List ℕ → Plain
  text : List ℕ → Plain
  flag : Bool → Plain
  elsewhere : ℕ → Plain

abbrev pub number_as : NumberClass → ℕ → Plain
number_as kind n = number kind n

abbrev pub bytes_as : BlockClass → List ℕ → Plain
bytes_as kind bs = bytes kind bs

abbrev pub plain : FormValue → Plain
plain (values.Address n) = number kinds.Address n
plain (values.Unsigned n) = number kinds.Unsigned n
plain (values.Signed z) = signed z
plain (values.Sixteen b) = sixteen b.now
plain (values.Block b) = bytes holds.Block b.now
plain (values.Expr b) = bytes holds.Expr b.now
plain (values.Flag b) = flag b
plain (values.Text t) = text t
plain (values.Strp n) = number kinds.Strp n
plain (values.LineStrp n) = number kinds.LineStrp n
plain (values.Strx n) = number kinds.Strx n
plain (values.Index n) = number kinds.Index n
plain (values.UnitRef n) = number kinds.UnitRef n
plain (values.InfoRef n) = number kinds.InfoRef n
plain (values.SecOffset n) = number kinds.SecOffset n
plain (values.Alt f) = elsewhere f

abbrev pub or_cut : {A : Type 0} → ℕ → Option A → Result A FormFault
or_cut attribute None = Err (ValueTruncated attribute)
or_cut attribute (Some x) = Ok x

abbrev pub of_leb : {A : Type 0} → ℕ → ℕ → Result A LebFault → Result A FormFault
of_leb at attribute (Ok x) = Ok x
of_leb at attribute (Err Truncated) = Err (ValueTruncated attribute)
of_leb at attribute (Err TooWide) = Err (LebWide at)

unfoldable pub fixed_at : List ℕ → ℕ → ℕ → Order → ℕ → Result (ℕ × ℕ) FormFault
fixed_at unit at width order attribute =
    or_cut attribute (number_of unit at width order) >>= λ (n : ℕ). Ok (n, at + width)

unfoldable pub uleb_at : List ℕ → ℕ → ℕ → Result (ℕ × ℕ) FormFault
uleb_at unit at attribute = of_leb at attribute (uleb_of unit at)

unfoldable pub sleb_at : List ℕ → ℕ → ℕ → Result (ℤ × ℕ) FormFault
sleb_at unit at attribute = of_leb at attribute (sleb_of unit at)

unfoldable pub bytes_at : List ℕ → ℕ → ℕ → ℕ → Result (List ℕ × ℕ) FormFault
bytes_at unit at count attribute = if nat_le (at + count) (length unit)
    then Ok (take count (drop at unit), at + count) else Err (ValueTruncated attribute)

unfoldable pub text_at : List ℕ → ℕ → ℕ → Result (List ℕ × ℕ) FormFault
text_at unit at attribute =
    or_cut attribute (text_of unit at) >>= λ (t : List ℕ). Ok (t, at + length t + 1)

-- the value of a layout, and the place after it; one without bytes stands not past the unit's end
-- either
unfoldable pub read_at : FormLayout → ℕ → List ℕ → ℕ → Order → Spec → Result (Plain × ℕ) FormFault
read_at (layouts.Fixed w kind) form unit at order spec =
    fixed_at unit at w order spec.attribute >>= λ (n : ℕ × ℕ). Ok (number kind n.0, n.1)
read_at (layouts.Leb kind) form unit at order spec =
    uleb_at unit at spec.attribute >>= λ (n : ℕ × ℕ). Ok (number kind n.0, n.1)
read_at layouts.Signed form unit at order spec =
    sleb_at unit at spec.attribute >>= λ (n : ℤ × ℕ). Ok (signed n.0, n.1)
read_at layouts.Implicit form unit at order spec =
    bytes_at unit at 0 spec.attribute >>= λ (b : List ℕ × ℕ). Ok (signed spec.implicit, b.1)
read_at layouts.Flag form unit at order spec =
    fixed_at unit at 1 order spec.attribute >>= λ (n : ℕ × ℕ). Ok (flag (not (n.0 == 0)), n.1)
read_at layouts.Present form unit at order spec =
    bytes_at unit at 0 spec.attribute >>= λ (b : List ℕ × ℕ). Ok (flag true, b.1)
read_at layouts.Text form unit at order spec =
    text_at unit at spec.attribute >>= λ (t : List ℕ × ℕ). Ok (text t.0, t.1)
read_at layouts.Sixteen form unit at order spec =
    bytes_at unit at 16 spec.attribute >>= λ (b : List ℕ × ℕ). Ok (sixteen b.0, b.1)
read_at (layouts.Counted w kind) form unit at order spec =
    fixed_at unit at w order spec.attribute >>= λ (n : ℕ × ℕ). bytes_at unit n.1 n.0 spec.attribute
    >>= λ (b : List ℕ × ℕ). Ok (bytes kind b.0, b.1)
read_at (layouts.LebCounted kind) form unit at order spec =
    uleb_at unit at spec.attribute >>= λ (n : ℕ × ℕ). bytes_at unit n.1 n.0 spec.attribute
    >>= λ (b : List ℕ × ℕ). Ok (bytes kind b.0, b.1)
read_at (layouts.Elsewhere w) form unit at order spec =
    fixed_at unit at w order spec.attribute >>= λ (n : ℕ × ℕ). Ok (elsewhere form, n.1)

abbrev pub or_unknown : ℕ → Option FormLayout → Result FormLayout FormFault
or_unknown form None = Err (FormUnknown form)
or_unknown form (Some l) = Ok l

-- the form that is used, and the place of its value: an indirect form is named by the number that
-- stands first
unfoldable pub form_at : List ℕ → ℕ → Spec → Result (ℕ × ℕ) FormFault
form_at unit at spec =
    if spec.form == DW_FORM_indirect
    then (uleb_at unit at spec.attribute >>= λ (f : ℕ × ℕ). if f.0 == DW_FORM_indirect || f.0
    == DW_FORM_implicit_const then Err (FormUnknown f.0) else Ok f)
    else Ok (spec.form, at)

-- a form and its value
pub record Shown : Type 0 where
  pub form : ℕ
  pub value : Plain

-- the bytes of a unit, and how its numbers lie
pub record Within : Type 0 where
  pub unit : List ℕ
  pub order : Order
  pub offset_bytes : ℕ
  pub address_bytes : ℕ

unfoldable pub value_of : Within → Spec → ℕ → Result (Shown × ℕ) FormFault
value_of c spec at =
    form_at c.unit at spec >>= λ (f : ℕ × ℕ).
    or_unknown f.0 (layout_of c.offset_bytes c.address_bytes f.0) >>= λ (l : FormLayout).
    read_at l f.0 c.unit f.1 c.order spec >>= λ (v : Plain × ℕ).
    Ok (record { form = f.0; value = v.0 }, v.1)

-- what is left of it where only the place after the value is asked for
abbrev pub end_of : Result (Shown × ℕ) FormFault → Result ℕ FormFault
end_of r = r >>= λ (x : Shown × ℕ). Ok x.1

abbrev pub within : FormCtx → Within
within c = record {
  unit = take c.end c.info.now;
  order = c.order;
  offset_bytes = c.offset_bytes;
  address_bytes = c.address_bytes;
}

abbrev pub given : Given → Shown
given g = record { form = g.form; value = plain g.value }
