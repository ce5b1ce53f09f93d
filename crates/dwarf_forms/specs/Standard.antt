-- Values as the standard lays them out (DWARF 5, sections 7.5.4 to 7.5.6): for each layout the
-- bytes that a value takes, and what it is.
use Rattle.std.specs.Prelude.{ℕ, ◌≡◌, ◌≢◌, ◌+◌, ◌≤◌, ◌<◌, ◌^◌, ◌⊎◌, ⊤, ℤ, true, not, List, [], ◌∷◌}
use Rattle.std.specs.Prelude.{◌++◌, length, drop, Some, ◌==◌}
use Rattle.dw_base.specs.Leb128.{unsigned_of, signed_of, fits_i64}
use Rattle.dw_base.specs.Numbers.{ordered}
use Rattle.dw_base.specs.declared.numbers.Order.{Order}
use Rattle.dwarf_abbrev.specs.declared.constants.TheConstants.{DW_FORM_implicit_const}
use Rattle.dwarf_abbrev.specs.declared.constants.TheConstants.{DW_FORM_indirect}
use Rattle.dwarf_abbrev.specs.declared.spec.Spec.{Spec}
use Rattle.dwarf_forms.specs.declared.layout.FormLayout.{FormLayout}
use Rattle.dwarf_forms.specs.declared.layout.FormLayout.TheVariants.{Fixed, Leb, Signed, Implicit}
use Rattle.dwarf_forms.specs.declared.layout.FormLayout.TheVariants.{Flag}
use Rattle.dwarf_forms.specs.declared.layout.FormLayout.TheVariants.{Present, Text, Sixteen}
use Rattle.dwarf_forms.specs.declared.layout.FormLayout.TheVariants.{Counted}
use Rattle.dwarf_forms.specs.declared.layout.FormLayout.TheVariants.{LebCounted, Elsewhere}
use Rattle.dwarf_forms.specs.Forms.{layout_of}
use Rattle.dwarf_forms.specs.Values.{Plain, Shown, Within}
use Rattle.dwarf_forms.specs.Values.Plain.{number, signed, bytes, sixteen, text, flag, elsewhere}

-- the bytes of a LEB128 number: bit 7 is set in all but the last (section 7.6)
abbrev pub IsLeb : List ℕ → Type 0
IsLeb [] = ⊥
IsLeb (b ∷ bs) = ((b < 128) × (bs ≡ [])) ⊎ ((128 ≤ b) × IsLeb bs)

-- no byte is NUL
abbrev pub HasNoNul : List ℕ → Type 0
HasNoNul [] = ⊤
HasNoNul (b ∷ bs) = (b ≢ 0) × HasNoNul bs

-- these bytes, in this form and order and with this value in the abbreviation, are the value
abbrev pub Means : FormLayout → ℕ → Order → ℤ → List ℕ → Plain → Type 0
Means (Fixed w kind) form order implicit piece v =
    (length piece ≡ w) × (v ≡ number kind (ordered order piece))
Means (Leb kind) form order implicit piece v =
    IsLeb piece × (unsigned_of piece < 2 ^ 64) × (v ≡ number kind (unsigned_of piece))
Means Signed form order implicit piece v =
    IsLeb piece × (fits_i64 (signed_of piece) ≡ true) × (v ≡ signed (signed_of piece))
Means Implicit form order implicit piece v = (piece ≡ []) × (v ≡ signed implicit)
Means Flag form order implicit piece v = (b : ℕ) × (piece ≡ b ∷ []) × (v ≡ flag (not (b == 0)))
Means Present form order implicit piece v = (piece ≡ []) × (v ≡ flag true)
Means Text form order implicit piece v =
    (t : List ℕ) × (piece ≡ t ++ 0 ∷ []) × HasNoNul t × (v ≡ text t)
Means Sixteen form order implicit piece v = (length piece ≡ 16) × (v ≡ sixteen piece)
Means (Counted w kind) form order implicit piece v = (count body : List ℕ) × (piece ≡ count ++ body)
    × (length count ≡ w) × (length body ≡ ordered order count) × (v ≡ bytes kind body)
Means (LebCounted kind) form order implicit piece v =
    (count body : List ℕ) × (piece ≡ count ++ body) × IsLeb count × (unsigned_of count < 2 ^ 64)
    × (length body ≡ unsigned_of count) × (v ≡ bytes kind body)
Means (Elsewhere w) form order implicit piece v = (length piece ≡ w) × (v ≡ elsewhere form)

-- the bytes from a place on begin with a piece, which ends at another place
abbrev pub Stands : List ℕ → ℕ → List ℕ → ℕ → Type 0
Stands unit at piece end =
    (rest : List ℕ) × (drop at unit ≡ piece ++ rest) × (end ≡ at + length piece)

-- a value of a form of the table
pub record IsOfForm (c : Within) (spec : Spec) (form at : ℕ) (v : Shown) (end : ℕ) : Type 0 where
  pub layout : FormLayout
  pub piece : List ℕ
  pub row : layout_of c.offset_bytes c.address_bytes form ≡ Some layout
  pub stands : Stands c.unit at piece end
  pub means : Means layout form c.order spec.implicit piece v.value
  pub named : v.form ≡ form

-- a form named by a LEB128 number in front of its value, and not indirect or implicit_const
pub record IsNamed (c : Within) (at form mid : ℕ) : Type 0 where
  pub digits : List ℕ
  pub stands : Stands c.unit at digits mid
  pub leb : IsLeb digits
  pub fits : unsigned_of digits < 2 ^ 64
  pub is : form ≡ unsigned_of digits
  pub other : form ≢ DW_FORM_indirect
  pub read : form ≢ DW_FORM_implicit_const

-- the form that is used, and the place of its value: the attribute's own one, or where that is
-- indirect the one named there
abbrev pub Uses : Within → Spec → ℕ → ℕ → ℕ → Type 0
Uses c spec at form mid = ((spec.form ≢ DW_FORM_indirect) × (form ≡ spec.form) × (mid ≡ at))
    ⊎ ((spec.form ≡ DW_FORM_indirect) × IsNamed c at form mid)

-- the value of an attribute is one of the form that is used
abbrev pub IsValue : Within → Spec → ℕ → Shown → ℕ → Type 0
IsValue c spec at v end = (form mid : ℕ) × Uses c spec at form mid × IsOfForm c spec form mid v end

-- and it stands in the unit: it begins and ends not past the unit's end, one without bytes too
abbrev pub IsValueIn : Within → Spec → ℕ → Shown → ℕ → Type 0
IsValueIn c spec at v end = IsValue c spec at v end × (at ≤ length c.unit) × (end ≤ length c.unit)
