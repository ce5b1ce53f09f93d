-- The places of members in bits (DWARF 5, section 5.7.6; DWARF 4, section 5.5.6).
use Rattle.std.specs.Prelude.{ℕ, ◌*◌, ◌-◌, ◌^◌, ℤ, pos, ◌+ℤ◌, ◌-ℤ◌, ◌*ℤ◌, ◌==◌, ◌&&◌, ◌||◌}
use Rattle.std.specs.Prelude.{nat_le, not, Bool, true, false}
use Rattle.std.specs.Prelude.{List, [], ◌∷◌, ◌++◌, Option, None, Some, if◌then◌else◌}
use Rattle.std.specs.Option.{option_map}
use Rattle.dw_base.specs.declared.numbers.Order.{Order}
use Rattle.dw_base.specs.declared.numbers.Order.TheVariants.{Little, Big}
use Rattle.dwarf_forms.specs.Values.{Shown}
use Rattle.entry_tree.specs.Items.{Given}
use Rattle.entry_tree.specs.Reads.{value_with}
use Rattle.type_attributes.specs.declared.number.Number.{Number}
use Rattle.type_attributes.specs.declared.number.Number.TheVariants.{Natural, Negative}
use Rattle.type_attributes.specs.declared.fault.TypeFault.{TypeFault}
use Rattle.type_attributes.specs.declared.fault.TypeFault.TheVariants.{MemberPlace}
use Rattle.type_attributes.specs.Scopes.{Scope}
use Rattle.type_attributes.specs.Numbers.{number_from, integer}
use Rattle.type_attributes.specs.Attributes.{Attr, has, constant_attr, number_value, offset_attr}
use Rattle.type_attributes.specs.Attributes.{target_attr}
use Rattle.type_attributes.specs.Extents.{bytes_at}
use Rattle.dwarf_abbrev.specs.declared.constants.TheConstants.{DW_AT_bit_offset, DW_AT_bit_size}
use Rattle.dwarf_abbrev.specs.declared.constants.TheConstants.{DW_AT_byte_size}
use Rattle.dwarf_abbrev.specs.declared.constants.TheConstants.{DW_AT_data_bit_offset}
use Rattle.dwarf_abbrev.specs.declared.constants.TheConstants.{DW_AT_data_member_location}
use Rattle.dwarf_abbrev.specs.declared.constants.TheConstants.{DW_FORM_data8, DW_TAG_member}

-- a position in bits: a natural number of units of so many bits
abbrev pub position_from : ℕ → ℕ → Number → Attr ℕ
position_from at scale (Natural n) = record { value = Some (scale * n); refused = [] }
position_from at scale (Negative n) = record { value = None; refused = MemberPlace at ∷ [] }

abbrev pub position_by_bits : ℕ → Option Number → Attr ℕ
position_by_bits at None = record { value = None; refused = [] }
position_by_bits at (Some n) = position_from at 1 n

-- an offset that is computed at run time is refused; the position is 0 where none is given
abbrev pub position_by_bytes : ℕ → Bool → Option (Option ℤ) → Attr ℕ
position_by_bytes at given None = record { value = if given then None else Some 0; refused = [] }
position_by_bytes at given (Some None) = record { value = None; refused = MemberPlace at ∷ [] }
position_by_bytes at given (Some (Some z)) = position_from at 8 (number_from z)

-- with refusals that came before
abbrev pub with_refusals : List TypeFault → Attr ℕ → Attr ℕ
with_refusals refused a = record { value = a.value; refused = refused ++ a.refused }

-- in a unit of version 4 or 5 a bit field with a bit_offset (0x0c) stands in a storage: its first
-- bit is so many bits behind the storage's most significant bit, which is the first one in a
-- big-endian file and the last one in a little-endian file
abbrev pub is_stored : Scope → Given → Bool
is_stored s m = has DW_AT_bit_size m
    && (has DW_AT_bit_offset m && (s.version == 4 || s.version == 5))

-- the 8 bytes of a bit_offset by DW_FORM_data8 are a number in two's complement; other numbers are
-- what their forms say
abbrev pub has_8_bytes : Option Shown → Bool
has_8_bytes None = false
has_8_bytes (Some g) = g.form == DW_FORM_data8

abbrev pub with_sign : Bool → Number → Number
with_sign wide (Natural n) =
    if wide && nat_le (2 ^ 63) n then Negative (2 ^ 64 - 1 - n) else Natural n
with_sign wide (Negative n) = Negative n

abbrev pub offset_in_storage : Given → Option Number
offset_in_storage m =
    option_map (with_sign (has_8_bytes (value_with DW_AT_bit_offset m.values)))
    (number_value (constant_attr DW_AT_bit_offset m))

-- the bytes before the storage: the data_member_location (0x38), 0 without one; none where it is
-- computed at run time
abbrev pub offset_number : Option (Option ℤ) → Option Number
offset_number (Some (Some z)) = Some (number_from z)
offset_number other = None

abbrev pub location_in : Given → Option Number
location_in m = if has DW_AT_data_member_location m
    then offset_number (offset_attr DW_AT_data_member_location m).value else Some (Natural 0)

-- the bytes of the storage: the member's own byte_size (0x0b), else those of its type
abbrev pub bytes_of_type : Scope → Option ℕ → Option Number
bytes_of_type s None = None
bytes_of_type s (Some at) = bytes_at s at

abbrev pub storage_in : Scope → Given → Option Number
storage_in s m = if has DW_AT_byte_size m then number_value (constant_attr DW_AT_byte_size m)
    else bytes_of_type s (target_attr s.sections m).value

abbrev pub bits_of_bytes : Number → ℤ
bits_of_bytes n = pos 8 *ℤ integer n

-- the first bit, by the location, the storage, the bit_offset and the bit_size (0x0d)
abbrev pub first_bit_big : Option Number → Option Number → Option ℤ
first_bit_big (Some location) (Some offset) = Some (bits_of_bytes location +ℤ integer offset)
first_bit_big location offset = None

abbrev pub first_bit_little : Option Number → Option Number → Option Number → Option Number
    → Option ℤ
first_bit_little (Some location) (Some storage) (Some offset) (Some size) =
    Some (((bits_of_bytes location +ℤ bits_of_bytes storage) -ℤ integer offset) -ℤ integer size)
first_bit_little location storage offset size = None

abbrev pub first_bit : Order → Scope → Given → Option ℤ
first_bit Big s m = first_bit_big (location_in m) (offset_in_storage m)
first_bit Little s m = first_bit_little (location_in m) (storage_in s m) (offset_in_storage m)
    (number_value (constant_attr DW_AT_bit_size m))

-- it is refused where it is not known or lies before the structure; a value of the wrong class is
-- refused before that
abbrev pub natural_position : ℕ → Option ℤ → Attr ℕ
natural_position at (Some (pos n)) = record { value = Some n; refused = [] }
natural_position at other = record { value = None; refused = MemberPlace at ∷ [] }

abbrev pub storage_refusals : Order → Given → List TypeFault
storage_refusals Big m = []
storage_refusals Little m = (constant_attr DW_AT_byte_size m).refused

abbrev pub stored_position : Scope → Given → Attr ℕ
stored_position s m =
    with_refusals ((offset_attr DW_AT_data_member_location m).refused
    ++ ((constant_attr DW_AT_bit_offset m).refused ++ storage_refusals s.sections.order m))
    (natural_position m.at (first_bit s.sections.order s m))

-- the bit position of a member: its data_bit_offset (0x6b), if it has one, else that in its
-- storage, if it has one, else 8 times its location
abbrev pub position_of : Scope → Given → Attr ℕ
position_of s m =
    if has DW_AT_data_bit_offset m
    then with_refusals (constant_attr DW_AT_data_bit_offset m).refused
    (position_by_bits m.at (number_value (constant_attr DW_AT_data_bit_offset m)))
    else (if is_stored s m
    then stored_position s m
    else with_refusals (offset_attr DW_AT_data_member_location m).refused
    (position_by_bytes m.at (has DW_AT_data_member_location m)
    (offset_attr DW_AT_data_member_location m).value))

-- whether the extent of another entry is needed
abbrev pub is_little : Order → Bool
is_little Little = true
is_little Big = false

abbrev pub needs_extents : Scope → Given → Bool
needs_extents s m = m.tag == DW_TAG_member
    && (is_stored s m && (not (has DW_AT_data_bit_offset m)
    && (not (has DW_AT_byte_size m) && is_little s.sections.order)))
