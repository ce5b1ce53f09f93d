-- What a value means whose form is a number of a fixed width.
use Rattle.std.proofs.Common.{◌≡◌, ℕ, ◌==◌, Bool, true, false, List, Option, None, Some, Result, Ok}
use Rattle.std.proofs.Common.{refl, sym, ap, ◌∙◌}
use Rattle.std.proofs.lemmas.Bool.{eqb-true}
use Rattle.dw_base.specs.Numbers.{number_of}
use Rattle.dw_base.specs.declared.numbers.Order.{Order}
use Rattle.dwarf_abbrev.specs.declared.constants.TheConstants.{DW_FORM_indirect, DW_FORM_strp}
use Rattle.dwarf_abbrev.specs.declared.constants.TheConstants.{DW_FORM_ref4}
use Rattle.dwarf_abbrev.specs.declared.spec.Spec.{Spec}
use Rattle.dwarf_forms.specs.declared.fault.FormFault.{FormFault}
use Rattle.dwarf_forms.specs.declared.layout.FormLayout.{FormLayout}
use Rattle.dwarf_forms.specs.declared.layout.FormLayout.TheVariants.{Fixed}
use Rattle.dwarf_forms.specs.declared.layout.NumberClass.{NumberClass}
use Rattle.dwarf_forms.specs.declared.layout.NumberClass.TheVariants.{Strp, UnitRef}
use Rattle.dwarf_forms.specs.Forms.{layout_of}
use Rattle.dwarf_forms.specs.Values.{◌>>=◌, Shown, Within, Plain, number, or_cut}
use Rattle.dwarf_forms.specs.Values.{fixed_at, read_at, value_of}
use Rattle.dwarf_forms.specs.Meanings.{meant}
use Rattle.dwarf_forms.proofs.Fixed.{form_used}

abbrev of_number : ℕ → NumberClass → ℕ → Shown
of_number form kind n = record { form = form; value = number kind n }

read_number : {A : Type 0} (meaning : Shown → Result A FormFault) (form : ℕ) (kind : NumberClass)
    (unit : List ℕ) (at w : ℕ) (order : Order) (s : Spec) (o : Option ℕ)
    → number_of unit at w order ≡ o
    → meant meaning (read_at (Fixed w kind) form unit at order s >>= λ (v : Plain × ℕ).
    Ok (record { form = form; value = v.0 }, v.1))
    ≡ (or_cut s.attribute o >>= λ (n : ℕ). meaning (of_number form kind n))
unfolding read_at fixed_at
read_number meaning form kind unit at w order s None e = rw e refl
read_number meaning form kind unit at w order s (Some n) e = rw e refl

-- by the number that stands there, for a form of a row of numbers
pub meant_number : {A : Type 0} (meaning : Shown → Result A FormFault) (c : Within) (s : Spec)
    (at w : ℕ) (kind : NumberClass) (o : Option ℕ) → (s.form == DW_FORM_indirect) ≡ false
    → layout_of c.offset_bytes c.address_bytes s.form ≡ Some (Fixed w kind)
    → number_of c.unit at w c.order ≡ o → meant meaning (value_of c s at)
    ≡ (or_cut s.attribute o >>= λ (n : ℕ). meaning (of_number s.form kind n))
unfolding value_of
meant_number meaning c s at w kind o used row e =
    rw (form_used c.unit at s used, row) (read_number meaning s.form kind c.unit at w c.order s o e)

is_direct : (form other : ℕ) → form ≡ other → (other == DW_FORM_indirect) ≡ false
    → (form == DW_FORM_indirect) ≡ false
is_direct form other e h = ap (λ (f : ℕ). f == DW_FORM_indirect) e ∙ h

has_row : (o a form other : ℕ) (l : FormLayout) → form ≡ other → layout_of o a other ≡ Some l
    → layout_of o a form ≡ Some l
has_row o a form other l e h = ap (λ (f : ℕ). layout_of o a f) e ∙ h

pub meant_strp : {A : Type 0} (meaning : Shown → Result A FormFault) (c : Within) (s : Spec)
    (at : ℕ) (o : Option ℕ) → s.form ≡ DW_FORM_strp → number_of c.unit at c.offset_bytes c.order ≡ o
    → meant meaning (value_of c s at)
    ≡ (or_cut s.attribute o >>= λ (n : ℕ). meaning (of_number s.form Strp n))
meant_strp meaning c s at o is e = meant_number meaning c s at c.offset_bytes Strp o
    (is_direct s.form DW_FORM_strp is refl)
    (has_row c.offset_bytes c.address_bytes s.form DW_FORM_strp (Fixed c.offset_bytes Strp) is refl) e

pub meant_ref4 : {A : Type 0} (meaning : Shown → Result A FormFault) (c : Within) (s : Spec)
    (at : ℕ) (o : Option ℕ) → s.form ≡ DW_FORM_ref4 → number_of c.unit at 4 c.order ≡ o
    → meant meaning (value_of c s at)
    ≡ (or_cut s.attribute o >>= λ (n : ℕ). meaning (of_number s.form UnitRef n))
meant_ref4 meaning c s at o is e = meant_number meaning c s at 4 UnitRef o
    (is_direct s.form DW_FORM_ref4 is refl)
    (has_row c.offset_bytes c.address_bytes s.form DW_FORM_ref4 (Fixed 4 UnitRef) is refl) e

-- a form with a row is not the indirect one, which has none
not_indirect : (o a form : ℕ) (l : FormLayout) (t : Bool) → (form == DW_FORM_indirect) ≡ t
    → layout_of o a form ≡ Some l → t ≡ false
not_indirect o a form l true e h =
    let is : form ≡ DW_FORM_indirect = eqb-true form DW_FORM_indirect e in
    let k : layout_of o a DW_FORM_indirect ≡ Some l = ap (λ (f : ℕ). layout_of o a f) (sym is) ∙ h in
    cc
not_indirect o a form l false e h = refl

pub meant_row : {A : Type 0} (meaning : Shown → Result A FormFault) (c : Within) (s : Spec)
    (at w : ℕ) (kind : NumberClass) (o : Option ℕ)
    → layout_of c.offset_bytes c.address_bytes s.form ≡ Some (Fixed w kind)
    → number_of c.unit at w c.order ≡ o → meant meaning (value_of c s at)
    ≡ (or_cut s.attribute o >>= λ (n : ℕ). meaning (of_number s.form kind n))
meant_row meaning c s at w kind o row e = meant_number meaning c s at w kind o
    (not_indirect c.offset_bytes c.address_bytes s.form (Fixed w kind) (s.form == DW_FORM_indirect)
    refl row) row e
