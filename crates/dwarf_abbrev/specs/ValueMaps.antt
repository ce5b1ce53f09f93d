-- Where the values of an entry stand, as far as its abbreviation tells.
use Rattle.std.specs.Prelude.{ℕ, suc, ◌≡◌, ◌≤◌, ◌<◌, ◌+◌, ◌-◌, ◌==◌, ◌||◌, Bool, false, List, [], ◌∷◌}
use Rattle.std.specs.Prelude.{length, take, drop, get_or, slice_get, Option, None, Some}
use Rattle.std.specs.Prelude.{if◌then◌else◌}
use Rattle.std.specs.Option.{option_map}
use Rattle.dwarf_abbrev.specs.declared.constants.TheConstants.{DW_AT_name, DW_AT_type}
use Rattle.dwarf_abbrev.specs.declared.constants.TheConstants.{DW_AT_byte_size, DW_AT_declaration}
use Rattle.dwarf_abbrev.specs.declared.constants.TheConstants.{DW_AT_data_member_location}
use Rattle.dwarf_abbrev.specs.declared.constants.TheConstants.{DW_AT_bit_size, DW_AT_bit_offset}
use Rattle.dwarf_abbrev.specs.declared.constants.TheConstants.{DW_AT_data_bit_offset}
use Rattle.dwarf_abbrev.specs.declared.constants.TheConstants.{DW_AT_const_value, DW_AT_upper_bound}
use Rattle.dwarf_abbrev.specs.declared.constants.TheConstants.{DW_AT_count, DW_AT_encoding}
use Rattle.dwarf_abbrev.specs.declared.constants.TheConstants.{DW_AT_external, DW_AT_language}
use Rattle.dwarf_abbrev.specs.declared.constants.TheConstants.{DW_AT_str_offsets_base}
use Rattle.dwarf_abbrev.specs.declared.spec.Spec.{Spec}
use Rattle.dwarf_abbrev.specs.declared.runs.FixedRun.{FixedRun}
use Rattle.dwarf_abbrev.specs.declared.slots.TheConstants.{MISSING, FAR}
use Rattle.dwarf_abbrev.specs.Sizes.{IsSize}

-- an abbreviation has an attribute
abbrev pub has_spec : ℕ → List Spec → Bool
has_spec name [] = false
has_spec name (s ∷ ss) = s.attribute == name || has_spec name ss

-- the first attribute of a name stands in this place
pub record IsFirst (name : ℕ) (specs : List Spec) (i : ℕ) : Type 0 where
  pub inside : i < length specs
  pub before : has_spec name (take i specs) ≡ false
  pub there : (d : Spec) → (get_or specs i d).attribute ≡ name

-- the names that have slots, in the order of these
abbrev pub slots : List ℕ
slots = DW_AT_name ∷ DW_AT_type ∷ DW_AT_byte_size ∷ DW_AT_data_member_location ∷ DW_AT_declaration
    ∷ DW_AT_bit_size ∷ DW_AT_data_bit_offset ∷ DW_AT_bit_offset ∷ DW_AT_const_value
    ∷ DW_AT_upper_bound ∷ DW_AT_count ∷ DW_AT_encoding ∷ DW_AT_external ∷ DW_AT_language
    ∷ DW_AT_str_offsets_base ∷ []

abbrev pub slot_in : ℕ → List ℕ → Option ℕ
slot_in name [] = None
slot_in name (n ∷ ns) =
    if name == n then Some 0 else option_map (λ (k : ℕ). suc k) (slot_in name ns)

unfoldable pub slot_of : ℕ → Option ℕ
slot_of name = slot_in name slots

-- a slot that says nothing but where an attribute stands
pub record IsPlaceOf (i p : ℕ) : Type 0 where
  pub at : p < FAR → p ≡ i
  pub missing : p ≡ MISSING → ⊥

-- what a slot says of a name, once so many attributes are noted
pub record SaysFirst (name : ℕ) (specs : List Spec) (n p : ℕ) : Type 0 where
  pub at : p < FAR → IsFirst name specs p
  pub missing : p ≡ MISSING → has_spec name (take n specs) ≡ false

-- each slot says where the first attribute of its name stands
abbrev pub ArePlaces : List Spec → ℕ → List ℕ → Type 0
ArePlaces specs n slots =
    (name k p : ℕ) → slot_of name ≡ Some k → slice_get slots k ≡ Some p → SaysFirst name specs n p

-- so many values before this one have fixed widths, and just this size
abbrev pub IsRun : List Spec → ℕ → FixedRun → Type 0
IsRun specs i r = (r.values ≤ i) × IsSize (drop (i - r.values) (take i specs)) r

abbrev pub AreRuns : List Spec → List FixedRun → Type 0
AreRuns specs runs = (i : ℕ) (r : FixedRun) → slice_get runs i ≡ Some r → IsRun specs i r

-- one run before each attribute, and one before the end
abbrev pub AreRunsOf : List Spec → List FixedRun → Type 0
AreRunsOf specs runs = AreRuns specs runs × (length runs ≡ length specs + 1)

pub record IsMapOf (specs : List Spec) (runs : List FixedRun) (slots : List ℕ) : Type 0 where
  pub all : AreRunsOf specs runs
  pub places : ArePlaces specs (length specs) slots
  pub count : length slots ≡ 15
