-- Why no value stands at a place (DWARF 5, sections 7.5.4 to 7.6): the first piece of it, in the
-- order of the bytes, that can't be read, and the fault that tells it. A piece that passes the
-- unit's end is told by the attribute, a number that does not fit 64 bits by its place, and a form
-- that the table does not have by itself.
use Rattle.std.specs.Prelude.{ℕ, ◌≡◌, ◌+◌, ◌≤◌, ◌<◌, ◌^◌, ◌⊎◌, ⊤, false, List, [], ◌∷◌, length}
use Rattle.std.specs.Prelude.{drop, None, Some}
use Rattle.dw_base.specs.Leb128.{unsigned_of, signed_of, fits_i64}
use Rattle.dw_base.specs.Numbers.{ordered}
use Rattle.dw_base.specs.declared.numbers.Order.{Order}
use Rattle.dwarf_abbrev.specs.declared.constants.TheConstants.{DW_FORM_implicit_const}
use Rattle.dwarf_abbrev.specs.declared.constants.TheConstants.{DW_FORM_indirect}
use Rattle.dwarf_abbrev.specs.declared.spec.Spec.{Spec}
use Rattle.dwarf_forms.specs.declared.fault.FormFault.{FormFault}
use Rattle.dwarf_forms.specs.declared.fault.FormFault.TheVariants.{LebWide, FormUnknown}
use Rattle.dwarf_forms.specs.declared.fault.FormFault.TheVariants.{ValueTruncated}
use Rattle.dwarf_forms.specs.declared.layout.FormLayout.{FormLayout}
use Rattle.dwarf_forms.specs.declared.layout.FormLayout.TheVariants.{Fixed, Leb, Signed, Implicit}
use Rattle.dwarf_forms.specs.declared.layout.FormLayout.TheVariants.{Flag}
use Rattle.dwarf_forms.specs.declared.layout.FormLayout.TheVariants.{Present, Text, Sixteen}
use Rattle.dwarf_forms.specs.declared.layout.FormLayout.TheVariants.{Counted}
use Rattle.dwarf_forms.specs.declared.layout.FormLayout.TheVariants.{LebCounted, Elsewhere}
use Rattle.dwarf_forms.specs.Forms.{layout_of}
use Rattle.dwarf_forms.specs.Values.{Within}
use Rattle.dwarf_forms.specs.Standard.{IsLeb, HasNoNul, Stands, Uses}

-- so many bytes pass the unit's end
abbrev pub NoBytes : List ℕ → ℕ → ℕ → ℕ → FormFault → Type 0
NoBytes unit attribute at width f = (length unit < at + width) × (f ≡ ValueTruncated attribute)

-- no byte up to the unit's end is NUL
abbrev pub NoText : List ℕ → ℕ → ℕ → FormFault → Type 0
NoText unit attribute at f = HasNoNul (drop at unit) × (f ≡ ValueTruncated attribute)

-- bit 7 is set in every byte, so no LEB128 number ends with one of them
abbrev pub NeverEnds : List ℕ → Type 0
NeverEnds [] = ⊤
NeverEnds (b ∷ bs) = (128 ≤ b) × NeverEnds bs

-- the bytes of a LEB128 number stand at a place
abbrev pub AreDigits : List ℕ → ℕ → List ℕ → ℕ → Type 0
AreDigits unit at digits end = Stands unit at digits end × IsLeb digits

-- a LEB128 number goes on up to the unit's end, or ends before that and does not fit
abbrev pub NoNumber : List ℕ → ℕ → ℕ → FormFault → Type 0
NoNumber unit attribute at f =
    (NeverEnds (drop at unit) × (f ≡ ValueTruncated attribute)) ⊎ ((digits : List ℕ) × (end : ℕ)
    × AreDigits unit at digits end × (2 ^ 64 ≤ unsigned_of digits) × (f ≡ LebWide at))

abbrev pub NoSigned : List ℕ → ℕ → ℕ → FormFault → Type 0
NoSigned unit attribute at f =
    (NeverEnds (drop at unit) × (f ≡ ValueTruncated attribute))
    ⊎ ((digits : List ℕ) × (end : ℕ) × AreDigits unit at digits end
    × (fits_i64 (signed_of digits) ≡ false) × (f ≡ LebWide at))

-- an unsigned LEB128 number that fits
abbrev pub IsNumber : List ℕ → ℕ → ℕ → ℕ → Type 0
IsNumber unit at n end = (digits : List ℕ) × AreDigits unit at digits end
    × (unsigned_of digits < 2 ^ 64) × (n ≡ unsigned_of digits)

-- of a value of a layout: its bytes; or where it is counted the count, or what is counted. A value
-- without bytes is refused where its place itself passes the unit's end
abbrev pub Lacks : FormLayout → Order → List ℕ → ℕ → ℕ → FormFault → Type 0
Lacks (Fixed w kind) order unit attribute at f = NoBytes unit attribute at w f
Lacks (Leb kind) order unit attribute at f = NoNumber unit attribute at f
Lacks Signed order unit attribute at f = NoSigned unit attribute at f
Lacks Implicit order unit attribute at f = NoBytes unit attribute at 0 f
Lacks Flag order unit attribute at f = NoBytes unit attribute at 1 f
Lacks Present order unit attribute at f = NoBytes unit attribute at 0 f
Lacks Text order unit attribute at f = NoText unit attribute at f
Lacks Sixteen order unit attribute at f = NoBytes unit attribute at 16 f
Lacks (Counted w kind) order unit attribute at f =
    NoBytes unit attribute at w f ⊎ ((count : List ℕ) × (mid : ℕ) × Stands unit at count mid
    × (length count ≡ w) × NoBytes unit attribute mid (ordered order count) f)
Lacks (LebCounted kind) order unit attribute at f = NoNumber unit attribute at f
    ⊎ ((count mid : ℕ) × IsNumber unit at count mid × NoBytes unit attribute mid count f)
Lacks (Elsewhere w) order unit attribute at f = NoBytes unit attribute at w f

-- of a value of a form: its row in the table, or a piece by its layout
abbrev pub NoneOfForm : Within → Spec → ℕ → ℕ → FormFault → Type 0
NoneOfForm c spec form at f =
    ((layout_of c.offset_bytes c.address_bytes form ≡ None) × (f ≡ FormUnknown form))
    ⊎ ((layout : FormLayout) × (layout_of c.offset_bytes c.address_bytes form ≡ Some layout)
    × Lacks layout c.order c.unit spec.attribute at f)

-- of a form named in front of its value: the number, or it is that of indirect or implicit_const
abbrev pub NoneNamed : Within → Spec → ℕ → FormFault → Type 0
NoneNamed c spec at f =
    NoNumber c.unit spec.attribute at f ⊎ ((form mid : ℕ) × IsNumber c.unit at form mid
    × ((form ≡ DW_FORM_indirect) ⊎ (form ≡ DW_FORM_implicit_const)) × (f ≡ FormUnknown form))

-- of the value of an attribute: after indirect the form, and then a value of the form that is used
abbrev pub IsRefused : Within → Spec → ℕ → FormFault → Type 0
IsRefused c spec at f = ((spec.form ≡ DW_FORM_indirect) × NoneNamed c spec at f)
    ⊎ ((form mid : ℕ) × Uses c spec at form mid × NoneOfForm c spec form mid f)
