-- The first piece of a table, in the order of the bytes, that can't be read, and the fault that
-- tells it.
use Rattle.std.specs.Prelude.{ℕ, ◌≡◌, ◌≢◌, ◌+◌, ◌<◌, ◌⊎◌, Bool, List, [], ◌∷◌, slice_get, None}
use Rattle.std.specs.Prelude.{Some, Err, if◌then◌else◌}
use Rattle.dw_base.specs.Leb128.{uleb_of, sleb_of}
use Rattle.dw_base.specs.declared.leb128.LebFault.{LebFault}
use Rattle.dw_base.specs.declared.leb128.LebFault.TheVariants.{Truncated, TooWide}
use Rattle.dwarf_abbrev.specs.declared.constants.TheConstants.{DW_FORM_implicit_const}
use Rattle.dwarf_abbrev.specs.declared.fault.AbbrevFault.{AbbrevFault}
use Rattle.dwarf_abbrev.specs.declared.fault.AbbrevFault.TheVariants.{AbbrevTruncated, AbbrevTwice}
use Rattle.dwarf_abbrev.specs.declared.fault.AbbrevFault.TheVariants.{LebWide, ChildrenByte}
use Rattle.dwarf_abbrev.specs.declared.spec.Spec.{Spec}
use Rattle.dwarf_abbrev.specs.Declarations.{Declaration}
use Rattle.dwarf_abbrev.specs.Standard.{IsNumber, ArePairs, IsDeclaration, IsNew}

-- a number that is cut off is told by the place of its abbreviation, one that does not fit by its
-- own
abbrev pub number_fault : ℕ → ℕ → LebFault → AbbrevFault
number_fault start at Truncated = AbbrevTruncated start
number_fault start at TooWide = LebWide at

abbrev pub NoNumber : List ℕ → ℕ → ℕ → AbbrevFault → Type 0
NoNumber bytes start at f =
    (e : LebFault) × (uleb_of bytes at ≡ Err e) × (f ≡ number_fault start at e)

abbrev pub NoSigned : List ℕ → ℕ → ℕ → AbbrevFault → Type 0
NoSigned bytes start at f =
    (e : LebFault) × (sleb_of bytes at ≡ Err e) × (f ≡ number_fault start at e)

-- no byte, or one that is neither 0 nor 1
abbrev pub NoChildren : List ℕ → ℕ → ℕ → AbbrevFault → Type 0
NoChildren bytes start at f = ((slice_get bytes at ≡ None) × (f ≡ AbbrevTruncated start))
    ⊎ ((b : ℕ) × (slice_get bytes at ≡ Some b) × (1 < b) × (f ≡ ChildrenByte at b))

-- the form, or after implicit_const its value
abbrev pub NoForm : List ℕ → ℕ → ℕ → AbbrevFault → Type 0
NoForm bytes start at f = NoNumber bytes start at f ⊎ ((value_at : ℕ)
    × IsNumber bytes at DW_FORM_implicit_const value_at × NoSigned bytes start value_at f)

-- the attribute, or what follows it
abbrev pub NoPair : List ℕ → ℕ → ℕ → AbbrevFault → Type 0
NoPair bytes start at f = NoNumber bytes start at f
    ⊎ ((name mid : ℕ) × IsNumber bytes at name mid × NoForm bytes start mid f)

-- a pair after some whole ones
abbrev pub NoPairs : List ℕ → ℕ → ℕ → AbbrevFault → Type 0
NoPairs bytes start at f =
    (ss : List Spec) × (mid : ℕ) × ArePairs bytes at ss mid × NoPair bytes start mid f

-- the children byte, or a pair
abbrev pub NoRest : List ℕ → ℕ → ℕ → AbbrevFault → Type 0
NoRest bytes start at f = NoChildren bytes start at f ⊎ ((children : Bool)
    × (slice_get bytes at ≡ Some (if children then 1 else 0)) × NoPairs bytes start (at + 1) f)

-- the tag, or what follows it
abbrev pub NoTag : List ℕ → ℕ → ℕ → AbbrevFault → Type 0
NoTag bytes start at f = NoNumber bytes start at f
    ⊎ ((tag mid : ℕ) × IsNumber bytes at tag mid × NoRest bytes start mid f)

-- a code that one before it has, or what follows a new one
abbrev pub IsTwice : List ℕ → ℕ → List Declaration → ℕ → ℕ → AbbrevFault → Type 0
IsTwice bytes start before code mid f = ((IsNew code before → ⊥) × (f ≡ AbbrevTwice start code))
    ⊎ (IsNew code before × NoTag bytes start mid f)

-- the code, or what follows one that is not 0
abbrev pub NoDeclaration : List ℕ → ℕ → List Declaration → AbbrevFault → Type 0
NoDeclaration bytes at before f = NoNumber bytes at at f ⊎ ((code mid : ℕ)
    × IsNumber bytes at code mid × (code ≢ 0) × IsTwice bytes at before code mid f)

-- whole abbreviations that follow one another, all of different codes
abbrev pub AreDeclarations : List ℕ → ℕ → List Declaration → ℕ → Type 0
AreDeclarations bytes at [] after = at ≡ after
AreDeclarations bytes at (d ∷ ds) after =
    (mid : ℕ) × IsDeclaration bytes at d mid × IsNew d.code ds × AreDeclarations bytes mid ds after

-- whole abbreviations, and then one with a piece that can't be read
abbrev pub IsRefused : List ℕ → ℕ → AbbrevFault → Type 0
IsRefused bytes at f = (before : List Declaration) × (mid : ℕ) × AreDeclarations bytes at before mid
    × NoDeclaration bytes mid before f
