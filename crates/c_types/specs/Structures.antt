-- Structures and unions (DWARF 5, sections 5.7.1 to 5.7.6): declared ones are forward declarations,
-- the others have a size and members.
use Rattle.std.specs.Prelude.{ℕ, ℤ, ◌+◌, ◌*◌, ◌^◌, nat_lt, nat_le, ◌&&◌, not, Bool, false, List, []}
use Rattle.std.specs.Prelude.{◌++◌, length, map, Option, None, Some, if◌then◌else◌}
use Rattle.c_model.specs.declared.kinds.TheConstants.{BTF_KIND_FWD, BTF_KIND_STRUCT, BTF_KIND_UNION}
use Rattle.c_model.specs.declared.label.Label.{Label}
use Rattle.c_model.specs.declared.label.Part.{Part}
use Rattle.entry_tree.specs.Items.{Given}
use Rattle.type_attributes.specs.declared.source.Target.{Target}
use Rattle.type_attributes.specs.declared.number.Number.{Number}
use Rattle.type_attributes.specs.declared.number.Number.TheVariants.{Natural, Negative}
use Rattle.type_attributes.specs.declared.fault.TypeFault.{TypeFault}
use Rattle.type_attributes.specs.declared.fault.TypeFault.TheVariants.{MissingType, UnnamedForward}
use Rattle.type_attributes.specs.declared.fault.TypeFault.TheVariants.{BitSize, MemberFar, TooMany}
use Rattle.type_attributes.specs.Scopes.{Scope}
use Rattle.type_attributes.specs.Faults.{refuse_if}
use Rattle.type_attributes.specs.Numbers.{number_from}
use Rattle.type_attributes.specs.Positions.{position_of}
use Rattle.type_attributes.specs.Attributes.{has, name_attr, name_in_full, constant_attr}
use Rattle.type_attributes.specs.Attributes.{flag_attr, is_set, target_attr, target_of_type}
use Rattle.type_attributes.specs.Children.{tagged}
use Rattle.type_attributes.specs.Labels.{Row, type_of, is_empty, size_in, size_refusals}
use Rattle.type_attributes.specs.Parts.{part_of, refusals_by, some_is, most}
use Rattle.dwarf_abbrev.specs.declared.constants.TheConstants.{DW_AT_bit_size, DW_AT_byte_size}
use Rattle.dwarf_abbrev.specs.declared.constants.TheConstants.{DW_AT_declaration, DW_AT_type}
use Rattle.dwarf_abbrev.specs.declared.constants.TheConstants.{DW_TAG_member}

abbrev pub or_zero : Option ℕ → ℕ
or_zero None = 0
or_zero (Some n) = n

-- a bit size (0x0d) is 1 to 255
abbrev pub is_bit_size : Number → Bool
is_bit_size (Natural n) = nat_le 1 n && nat_le n 255
is_bit_size (Negative n) = false

abbrev pub bits_of : Number → ℕ
bits_of (Natural n) = if nat_le n 255 then n else 0
bits_of (Negative n) = 0

abbrev pub bits_in : Option ℤ → ℕ
bits_in None = 0
bits_in (Some z) = bits_of (number_from z)

abbrev pub bits_refused : ℕ → Option ℤ → List TypeFault
bits_refused at None = []
bits_refused at (Some z) = refuse_if (not (is_bit_size (number_from z))) (BitSize at z)

-- the word of a member: where one member is a bit field the bit size in the top 8 bits and the
-- position below them, else the position
abbrev pub limit : Bool → ℕ
limit fields = if fields then 2 ^ 24 else 2 ^ 32

abbrev pub near : Bool → ℕ → ℕ
near fields position = if nat_lt position (limit fields) then position else 0

abbrev pub word_of : Bool → ℕ → ℕ → ℕ
word_of fields position bits =
    if fields then bits * 2 ^ 24 + near fields position else near fields position

abbrev pub member_word : Scope → Bool → Given → ℕ
member_word s fields m =
    word_of fields (or_zero (position_of s m).value)
    (bits_in (constant_attr DW_AT_bit_size m).value)

abbrev pub member_part : Scope → Bool → Given → Part
member_part s fields m = part_of (name_in_full (name_attr s.sections m)) (member_word s fields m)

abbrev pub member_target : Scope → Given → Target
member_target s m = target_of_type m.at (target_attr s.sections m)

abbrev pub far_refused : ℕ → Bool → ℕ → List TypeFault
far_refused at fields position =
    refuse_if (not (nat_lt position (limit fields))) (MemberFar at position)

-- a member has a place that is fixed, a bit size in range, if it has one, and a position that fits
-- its word
abbrev pub place_refused : Scope → Bool → Given → List TypeFault
place_refused s fields m =
    (position_of s m).refused
    ++ ((constant_attr DW_AT_bit_size m).refused
    ++ (bits_refused m.at (constant_attr DW_AT_bit_size m).value
    ++ far_refused m.at fields (or_zero (position_of s m).value)))

-- and a type
abbrev pub member_refused : Scope → Bool → Given → List TypeFault
member_refused s fields m =
    (name_attr s.sections m).refused ++ ((target_attr s.sections m).refused
    ++ (refuse_if (not (has DW_AT_type m)) (MissingType m.at) ++ place_refused s fields m))

-- some member is a bit field
abbrev pub has_fields : List Given → Bool
has_fields members = some_is (has DW_AT_bit_size) members

abbrev pub forward_label : Bool → List ℕ → Label
forward_label union name =
    record { kind = BTF_KIND_FWD; name = name; flag = union; size = 0; extra = 0; parts = [] }

abbrev pub structure_label : Bool → List ℕ → ℕ → Bool → List Part → Label
structure_label union name size fields parts = record {
  kind = if union then BTF_KIND_UNION else BTF_KIND_STRUCT;
  name = name;
  flag = fields;
  size = size;
  extra = 0;
  parts = parts;
}

-- a declared one has a name, and neither its size nor its members are read
abbrev pub forward_row : Scope → Bool → Given → Row
forward_row s union e =
    let name = name_attr s.sections e in
    record {
      made = type_of e (forward_label union (name_in_full name)) [];
      refused = name.refused ++ refuse_if (is_empty (name_in_full name)) (UnnamedForward e.at);
    }

abbrev pub defined_row : Scope → Bool → Given → List Given → Row
defined_row s union e members =
    let name = name_attr s.sections e in
    let size = constant_attr DW_AT_byte_size e in
    let fields = has_fields members in
    record {
      made = type_of e (structure_label union (name_in_full name) (size_in size.value) fields
          (map (member_part s fields) members)) (map (member_target s) members);
      refused = name.refused
          ++ (size.refused
          ++ (size_refusals e.at size.value ++ (refusals_by (member_refused s fields)
          members ++ refuse_if (nat_lt most (length members)) (TooMany e.at (length members)))));
    }

-- the refusal of a declaration (0x3c) of the wrong class comes besides; such a one is not declared
abbrev pub with_refused : List TypeFault → Row → Row
with_refused refused r = record { made = r.made; refused = refused ++ r.refused }

abbrev pub structure_row : Scope → Bool → Given → List Given → Row
structure_row s union e children =
    with_refused (flag_attr DW_AT_declaration e).refused
    (if is_set (flag_attr DW_AT_declaration e)
    then forward_row s union e else defined_row s union e (tagged DW_TAG_member children))
