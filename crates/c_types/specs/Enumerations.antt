-- Enumerations (DWARF 5, section 5.7): declared ones, and those with a name and no enumerators, are
-- enumerations of 4 bytes without enumerators.
use Rattle.std.specs.Prelude.{ℕ, ℤ, ◌-◌, ◌%◌, ◌^◌, nat_lt, ◌==◌, ◌&&◌, ◌||◌, not, Bool, true, false}
use Rattle.std.specs.Prelude.{List, [], ◌∷◌, ◌++◌, length, map, Option, None, Some, if◌then◌else◌}
use Rattle.c_model.specs.declared.kinds.TheConstants.{BTF_KIND_ENUM, BTF_KIND_ENUM64}
use Rattle.c_model.specs.declared.label.Label.{Label}
use Rattle.c_model.specs.declared.label.Part.{Part}
use Rattle.dwarf_forms.specs.Meanings.{Sections}
use Rattle.entry_tree.specs.Items.{Given}
use Rattle.type_attributes.specs.declared.number.Number.{Number}
use Rattle.type_attributes.specs.declared.number.Number.TheVariants.{Natural, Negative}
use Rattle.type_attributes.specs.declared.fault.TypeFault.{TypeFault}
use Rattle.type_attributes.specs.declared.fault.TypeFault.TheVariants.{MissingName, MissingSize}
use Rattle.type_attributes.specs.declared.fault.TypeFault.TheVariants.{UnnamedForward, EnumSize}
use Rattle.type_attributes.specs.declared.fault.TypeFault.TheVariants.{EnumValue, TooMany}
use Rattle.type_attributes.specs.Faults.{refuse_if}
use Rattle.type_attributes.specs.Numbers.{number_from}
use Rattle.type_attributes.specs.Attributes.{name_attr, name_in_full, constant_attr, number_value}
use Rattle.type_attributes.specs.Attributes.{flag_attr, is_set}
use Rattle.type_attributes.specs.Children.{tagged}
use Rattle.type_attributes.specs.Labels.{Row, type_of, is_empty, size_in}
use Rattle.type_attributes.specs.Parts.{part_of, refusals_by, some_is, some_tagged, most}
use Rattle.c_types.specs.Structures.{with_refused}
use Rattle.dwarf_abbrev.specs.declared.constants.TheConstants.{DW_AT_byte_size, DW_AT_const_value}
use Rattle.dwarf_abbrev.specs.declared.constants.TheConstants.{DW_AT_declaration, DW_TAG_enumerator}

-- an enumerator's value (0x1c) is negative
abbrev pub negative : Option Number → Bool
negative (Some (Negative n)) = true
negative other = false

abbrev pub is_negative : Given → Bool
is_negative e = negative (number_value (constant_attr DW_AT_const_value e))

-- the numbers below which values are, and their opposites at or above which: an eighth byte makes
-- 64 bits of them
abbrev pub top : Bool → Bool → ℕ
top wide signed =
    if wide then (if signed then 2 ^ 63 else 2 ^ 64) else (if signed then 2 ^ 31 else 2 ^ 32)

abbrev pub is_in_range : Bool → Bool → Number → Bool
is_in_range wide signed (Natural n) = nat_lt n (top wide signed)
is_in_range wide signed (Negative n) = signed && nat_lt n (top wide signed)

abbrev pub value_refused : ℕ → Bool → Bool → Option Number → List TypeFault
value_refused at wide signed None = EnumValue at ∷ []
value_refused at wide signed (Some n) = refuse_if (not (is_in_range wide signed n)) (EnumValue at)

-- the value modulo 2^32 or 2^64
abbrev pub power : Bool → ℕ
power wide = if wide then 2 ^ 64 else 2 ^ 32

abbrev pub residue : Bool → Number → ℕ
residue wide (Natural n) = n % power wide
residue wide (Negative n) = power wide - 1 - n % power wide

abbrev pub residue_in : Bool → Option Number → ℕ
residue_in wide None = 0
residue_in wide (Some n) = residue wide n

abbrev pub enumerator_part : Sections → Bool → Given → Part
enumerator_part c wide e =
    part_of (name_in_full (name_attr c e))
    (residue_in wide (number_value (constant_attr DW_AT_const_value e)))

abbrev pub enumerator_refused : Sections → Bool → Bool → Given → List TypeFault
enumerator_refused c wide signed e =
    (name_attr c e).refused
    ++ (refuse_if (is_empty (name_in_full (name_attr c e))) (MissingName e.at)
    ++ ((constant_attr DW_AT_const_value e).refused
    ++ value_refused e.at wide signed (number_value (constant_attr DW_AT_const_value e))))

-- its size is 1, 2, 4 or 8
abbrev pub is_size : ℕ → Bool
is_size size = size == 1 || size == 2 || size == 4 || size == 8

abbrev pub fits_size : Number → Bool
fits_size (Natural n) = is_size n
fits_size (Negative n) = false

abbrev pub enum_size_refused : ℕ → Option ℤ → List TypeFault
enum_size_refused at None = MissingSize at ∷ []
enum_size_refused at (Some z) = refuse_if (not (fits_size (number_from z))) (EnumSize at z)

abbrev pub enumeration_label : Bool → List ℕ → Bool → ℕ → List Part → Label
enumeration_label wide name signed size parts = record {
  kind = if wide then BTF_KIND_ENUM64 else BTF_KIND_ENUM;
  name = name;
  flag = signed;
  size = size;
  extra = 0;
  parts = parts;
}

-- the size that is given, and one of 8 bytes makes an ENUM64
abbrev pub enumerated_row : List ℕ → Given → Sections → Bool → List Given → Row
enumerated_row name e c signed enumerators =
    let size = constant_attr DW_AT_byte_size e in
    let wide = size_in size.value == 8 in
    record {
      made = type_of e (enumeration_label wide name signed (size_in size.value)
          (map (enumerator_part c wide) enumerators)) [];
      refused =
          size.refused
          ++ (enum_size_refused e.at size.value
          ++ (refusals_by (enumerator_refused c wide signed) enumerators
          ++ refuse_if (nat_lt most (length enumerators)) (TooMany e.at (length enumerators))));
    }

-- one without enumerators, and in a declaration a name is needed
abbrev pub bare_row : List ℕ → Given → Bool → Row
bare_row name e declared =
    record {
      made = type_of e (enumeration_label false name false 4 []) [];
      refused = refuse_if (declared && is_empty name) (UnnamedForward e.at);
    }

-- it is declared, or has a name and no enumerators
abbrev pub is_bare : Bool → List ℕ → List Given → Bool
is_bare declared name children =
    declared || (not (some_tagged DW_TAG_enumerator children) && not (is_empty name))

-- where a value is negative, the enumeration is signed
abbrev pub enumeration_row : Sections → Given → List Given → Row
enumeration_row c e children =
    let declared = flag_attr DW_AT_declaration e in
    let name = name_attr c e in
    with_refused (declared.refused ++ name.refused)
    (if is_bare (is_set declared) (name_in_full name) children
    then bare_row (name_in_full name) e (is_set declared)
    else enumerated_row (name_in_full name) e c
    (some_is is_negative (tagged DW_TAG_enumerator children))
    (tagged DW_TAG_enumerator children))
