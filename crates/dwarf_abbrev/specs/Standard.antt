-- Tables of abbreviations as the standard lays them out (DWARF 5, section 7.5.3): what the bytes
-- are, given the whole list.
use Rattle.std.specs.Prelude.{ℕ, ◌≡◌, ◌≢◌, ◌+◌, ◌⊎◌, pos, List, [], ◌∷◌, slice_get, Some, Ok}
use Rattle.std.specs.Prelude.{if◌then◌else◌, ⊤}
use Rattle.dw_base.specs.Leb128.{uleb_of, sleb_of}
use Rattle.dwarf_abbrev.specs.declared.constants.TheConstants.{DW_FORM_implicit_const}
use Rattle.dwarf_abbrev.specs.Declarations.{Declaration}
use Rattle.dwarf_abbrev.specs.declared.spec.Spec.{Spec}

-- a number at a place, and the place after it
abbrev pub IsNumber : List ℕ → ℕ → ℕ → ℕ → Type 0
IsNumber bytes at value after = uleb_of bytes at ≡ Ok (value, after)

-- a form that is not implicit_const, in a pair that is not the one of two zeros
pub record IsPlain (s : Spec) : Type 0 where
  pub other : s.form ≢ DW_FORM_implicit_const
  pub some : s.attribute ≡ 0 → s.form ≢ 0
  pub none : s.implicit ≡ pos 0

-- an attribute, its form, and after implicit_const the value
pub record IsPair (bytes : List ℕ) (at : ℕ) (s : Spec) (after : ℕ) : Type 0 where
  pub form_at : ℕ
  pub value_at : ℕ
  pub attribute : IsNumber bytes at s.attribute form_at
  pub form : IsNumber bytes form_at s.form value_at
  pub value : ((s.form ≡ DW_FORM_implicit_const)
      × (sleb_of bytes value_at ≡ Ok (s.implicit, after))) ⊎ (IsPlain s × (value_at ≡ after))

-- pairs that follow one another
abbrev pub ArePairs : List ℕ → ℕ → List Spec → ℕ → Type 0
ArePairs bytes at [] after = at ≡ after
ArePairs bytes at (s ∷ ss) after = (mid : ℕ) × IsPair bytes at s mid × ArePairs bytes mid ss after

-- a pair of two zeros
abbrev pub IsLast : List ℕ → ℕ → ℕ → Type 0
IsLast bytes at after = (mid : ℕ) × IsNumber bytes at 0 mid × IsNumber bytes mid 0 after

-- a code that is not 0, a tag, a byte 1 where there are children and 0 where there are none, and
-- pairs up to two zeros
pub record IsDeclaration (bytes : List ℕ) (at : ℕ) (d : Declaration) (after : ℕ) : Type 0 where
  pub tag_at : ℕ
  pub children_at : ℕ
  pub last_at : ℕ
  pub code : IsNumber bytes at d.code tag_at
  pub some : d.code ≢ 0
  pub tag : IsNumber bytes tag_at d.tag children_at
  pub children : slice_get bytes children_at ≡ Some (if d.children then 1 else 0)
  pub pairs : ArePairs bytes (children_at + 1) d.specs last_at
  pub last : IsLast bytes last_at after

-- no declaration has the code
abbrev pub IsNew : ℕ → List Declaration → Type 0
IsNew code [] = ⊤
IsNew code (d ∷ ds) = (d.code ≢ code) × IsNew code ds

-- a code 0; or an abbreviation whose code the rest does not have, and a table of the rest
abbrev pub IsTable : List ℕ → ℕ → List Declaration → Type 0
IsTable bytes at [] = (after : ℕ) × IsNumber bytes at 0 after
IsTable bytes at (d ∷ ds) =
    (mid : ℕ) × IsDeclaration bytes at d mid × IsNew d.code ds × IsTable bytes mid ds
