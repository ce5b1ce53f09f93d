-- Which of the refusals of a unit's types is the first: by the place of the entry, then the number,
-- then what is kept.
use Rattle.std.specs.Prelude.{ℕ, Bool, ◌≡◌, ◌<◌, ◌≤◌, ◌⊎◌, nat_lt, ◌==◌, List, [], ◌∷◌, All, Option}
use Rattle.std.specs.Prelude.{None, Some, if◌then◌else◌}
use Rattle.std.specs.List.{Contains}
use Rattle.dw_base.specs.declared.fault_numbers.TheConstants.{LEB_WIDE, FORM_UNKNOWN}
use Rattle.dw_base.specs.declared.fault_numbers.TheConstants.{VALUE_TRUNCATED, STRING_OUT, STRX_OUT}
use Rattle.dw_base.specs.declared.fault_numbers.TheConstants.{ALT_FORM, WRONG_CLASS, MISSING_NAME}
use Rattle.dw_base.specs.declared.fault_numbers.TheConstants.{MISSING_SIZE, MISSING_TYPE}
use Rattle.dw_base.specs.declared.fault_numbers.TheConstants.{UNNAMED_FORWARD, MEMBER_PLACE}
use Rattle.dw_base.specs.declared.fault_numbers.TheConstants.{BIT_SIZE, MEMBER_FAR, TOO_MANY}
use Rattle.dw_base.specs.declared.fault_numbers.TheConstants.{ARRAY_LENGTH, ENUM_SIZE, ENUM_VALUE}
use Rattle.dw_base.specs.declared.fault_numbers.TheConstants.{SIZE_LARGE}
use Rattle.dwarf_forms.specs.declared.fault.FormFault.{FormFault}
use Rattle.dwarf_forms.specs.declared.fault.FormFault.TheVariants.{LebWide, FormUnknown}
use Rattle.dwarf_forms.specs.declared.fault.FormFault.TheVariants.{ValueTruncated, StringOut}
use Rattle.dwarf_forms.specs.declared.fault.FormFault.TheVariants.{StrxOut, AltForm, WrongClass}
use Rattle.type_attributes.specs.declared.fault.TypeFault.{TypeFault}
use Rattle.type_attributes.specs.declared.fault.TypeFault.TheVariants.{Form, MissingName}
use Rattle.type_attributes.specs.declared.fault.TypeFault.TheVariants.{MissingSize, MissingType}
use Rattle.type_attributes.specs.declared.fault.TypeFault.TheVariants.{UnnamedForward, MemberPlace}
use Rattle.type_attributes.specs.declared.fault.TypeFault.TheVariants.{BitSize, MemberFar, TooMany}
use Rattle.type_attributes.specs.declared.fault.TypeFault.TheVariants.{ArrayLength, EnumSize}
use Rattle.type_attributes.specs.declared.fault.TypeFault.TheVariants.{EnumValue, SizeLarge}
use Rattle.type_attributes.specs.declared.fault.Rank.{Rank}

-- a place, a number and what is kept
abbrev pub rank_from : ℕ → ℕ → ℕ → ℕ → Rank
rank_from at number kept more = record { at = at; kept = kept; more = more; number = number }

abbrev pub form_rank : ℕ → FormFault → Rank
form_rank at (LebWide o) = rank_from at LEB_WIDE 0 0
form_rank at (FormUnknown f) = rank_from at FORM_UNKNOWN 0 0
form_rank at (ValueTruncated a) = rank_from at VALUE_TRUNCATED 0 0
form_rank at (StringOut o) = rank_from at STRING_OUT o 0
form_rank at (StrxOut i) = rank_from at STRX_OUT i 0
form_rank at (AltForm f) = rank_from at ALT_FORM f 0
form_rank at (WrongClass a f) = rank_from at WRONG_CLASS a f

-- the refusals of values alone come twice at one entry with one number, so what the others keep
-- decides nothing
abbrev pub rank_of : TypeFault → Rank
rank_of (Form at f) = form_rank at f
rank_of (MissingName at) = rank_from at MISSING_NAME 0 0
rank_of (MissingSize at) = rank_from at MISSING_SIZE 0 0
rank_of (MissingType at) = rank_from at MISSING_TYPE 0 0
rank_of (UnnamedForward at) = rank_from at UNNAMED_FORWARD 0 0
rank_of (MemberPlace at) = rank_from at MEMBER_PLACE 0 0
rank_of (BitSize at z) = rank_from at BIT_SIZE 0 0
rank_of (MemberFar at p) = rank_from at MEMBER_FAR 0 0
rank_of (TooMany at n) = rank_from at TOO_MANY 0 0
rank_of (ArrayLength at) = rank_from at ARRAY_LENGTH 0 0
rank_of (EnumSize at z) = rank_from at ENUM_SIZE 0 0
rank_of (EnumValue at) = rank_from at ENUM_VALUE 0 0
rank_of (SizeLarge at z) = rank_from at SIZE_LARGE 0 0
rank_of other = rank_from 0 0 0 0

abbrev pub is_before : Rank → Rank → Bool
is_before a b =
    if a.at == b.at
    then (if a.number == b.number
    then (if a.kept == b.kept then nat_lt a.more b.more else nat_lt a.kept b.kept)
    else nat_lt a.number b.number)
    else nat_lt a.at b.at

-- the first of two
abbrev pub first_of : TypeFault → TypeFault → TypeFault
first_of a b = if is_before (rank_of b) (rank_of a) then b else a

abbrev pub lesser : Option TypeFault → TypeFault → Option TypeFault
lesser None f = Some f
lesser (Some g) f = Some (first_of g f)

-- the first of two that may be there, the left one where neither comes first
abbrev pub joined : Option TypeFault → Option TypeFault → Option TypeFault
joined o None = o
joined o (Some f) = lesser o f

-- the first of one and those of a list
abbrev pub noted : Option TypeFault → List TypeFault → Option TypeFault
noted o [] = o
noted o (f ∷ fs) = noted (lesser o f) fs

-- the first of a list
abbrev pub least : List TypeFault → Option TypeFault
least fs = noted None fs

-- a refusal on a condition
abbrev pub refuse_if : Bool → TypeFault → List TypeFault
refuse_if refused f = if refused then f ∷ [] else []

-- one number is below another, or they are equal and the rest decides
abbrev pub ThenBy : ℕ → ℕ → Type 0 → Type 0
ThenBy a b rest = (a < b) ⊎ ((a ≡ b) × rest)

-- by place, number and what is kept the first comes before the second, or they are equal
abbrev pub IsNotAfter : Rank → Rank → Type 0
IsNotAfter a b =
    ThenBy a.at b.at (ThenBy a.number b.number (ThenBy a.kept b.kept (a.more ≤ b.more)))

-- one of some refusals, after none of which it comes
abbrev pub IsFirstAmong : List TypeFault → TypeFault → Type 0
IsFirstAmong fs f = Contains fs f × All (λ (g : TypeFault). IsNotAfter (rank_of f) (rank_of g)) fs
