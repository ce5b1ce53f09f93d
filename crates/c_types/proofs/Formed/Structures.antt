-- Structures and unions.
use Rattle.std.proofs.Common.{◌≡◌, ℕ, ℤ, ◌<◌, ◌≤◌, ◌^◌, nat_lt, nat_le, Bool, true, false, List}
use Rattle.std.proofs.Common.{length, map, Option, None, Some, if◌then◌else◌, refl, arith}
use Rattle.std.specs.Prelude.{All}
use Rattle.std.proofs.lemmas.Bool.{ltb-true, leb-true}
use Rattle.std.proofs.lemmas.List.{length-map}
use Rattle.c_model.specs.Kinds.{PartRow}
use Rattle.entry_tree.specs.Items.{Given}
use Rattle.type_attributes.specs.declared.number.Number.{Number}
use Rattle.type_attributes.specs.declared.number.Number.TheVariants.{Natural, Negative}
use Rattle.type_attributes.specs.declared.fault.TypeFault.{TypeFault}
use Rattle.type_attributes.specs.Scopes.{Scope}
use Rattle.type_attributes.specs.Numbers.{number_from}
use Rattle.type_attributes.specs.Attributes.{name_attr, name_in_full, constant_attr, flag_attr}
use Rattle.type_attributes.specs.Attributes.{is_set}
use Rattle.type_attributes.specs.Children.{tagged}
use Rattle.type_attributes.specs.Labels.{Row, size_in, size_refusals}
use Rattle.type_attributes.specs.Parts.{refusals_by}
use Rattle.type_attributes.specs.Positions.{position_of}
use Rattle.c_types.specs.Structures.{or_zero, bits_of, bits_in, near, word_of, member_word}
use Rattle.c_types.specs.Structures.{member_part, member_target, member_refused, has_fields}
use Rattle.c_types.specs.Structures.{forward_row, defined_row, with_refused, structure_row}
use Rattle.c_types.proofs.Formed.Refused.{second_empty}
use Rattle.c_types.proofs.Formed.Names.{IsNamedCleanly, name_clean}
use Rattle.c_types.proofs.Formed.Children.{tagged_all}
use Rattle.c_types.proofs.Formed.Kinds.{forward_formed, structure_formed}
use Rattle.c_types.proofs.Formed.Plain.{IsFormedRow, size_fits}
use Rattle.c_types.proofs.Formed.Functions.{named_part, parts_fit, few_parts}
use Rattle.dwarf_abbrev.specs.declared.constants.TheConstants.{DW_AT_bit_size, DW_AT_byte_size}
use Rattle.dwarf_abbrev.specs.declared.constants.TheConstants.{DW_AT_declaration, DW_TAG_member}

bits_if : (n : ℕ) (t : Bool) → nat_le n 255 ≡ t → (if t then n else 0) ≤ 255
bits_if n true t = leb-true n 255 t
bits_if n false t = omega arith

number_bits : (n : Number) → bits_of n ≤ 255
number_bits (Natural n) = bits_if n (nat_le n 255) refl
number_bits (Negative n) = omega arith

few_bits : (o : Option ℤ) → bits_in o ≤ 255
few_bits None = omega arith
few_bits (Some z) = number_bits (number_from z)

near_if : (n most : ℕ) (t : Bool) → 0 < most → nat_lt n most ≡ t → (if t then n else 0) < most
near_if n most true some t = ltb-true n most t
near_if n most false some t = some

word_small : (fields : Bool) (position bits : ℕ) → bits ≤ 255
    → word_of fields position bits < 2 ^ 32
word_small true position bits le = let h : near true position < 2 ^ 24 =
    near_if position (2 ^ 24) (nat_lt position (2 ^ 24)) (omega arith) refl in omega arith
word_small false position bits le =
    near_if position (2 ^ 32) (nat_lt position (2 ^ 32)) (omega arith) refl

member_small : (c : Scope) (fields : Bool) (m : Given) → member_word c fields m < 2 ^ 32
member_small c fields m = word_small fields (or_zero (position_of c m).value)
    (bits_in (constant_attr DW_AT_bit_size m).value)
    (few_bits (constant_attr DW_AT_bit_size m).value)

forward_row_formed : (c : Scope) (union : Bool) (e : Given) → IsNamedCleanly e
    → IsFormedRow (forward_row c union e)
forward_row_formed c union e clean none =
    forward_formed union (name_in_full (name_attr c.sections e)) (name_clean c.sections e clean)

defined_row_formed : (c : Scope) (union : Bool) (e : Given) (members : List Given)
    → IsNamedCleanly e → All IsNamedCleanly members → IsFormedRow (defined_row c union e members)
defined_row_formed c union e members clean all none =
    let fields = has_fields members in
    let size = constant_attr DW_AT_byte_size e in
    let row : PartRow = record { named = true; refers = true; value = 2 ^ 32 } in
    let few : length members ≤ 65535 = few_parts e.at (length members) (second_empty
    (refusals_by (member_refused c fields) members) _ (second_empty (size_refusals e.at size.value)
    _ (second_empty size.refused _ (second_empty (name_attr c.sections e).refused _ none)))) in
    structure_formed union (name_in_full (name_attr c.sections e)) (size_in size.value) fields
    (map (member_part c fields) members) (length (map (member_target c) members))
    (name_clean c.sections e clean) (size_fits size.value)
    (omega (arith, length-map members (member_target c), length-map members (member_part c fields)))
    (omega (arith, length-map members (member_part c fields)))
    (parts_fit row (member_part c fields) members (λ (m : Given) (h : IsNamedCleanly m).
    named_part true (2 ^ 32) (name_in_full (name_attr c.sections m)) (member_word c fields m)
    (name_clean c.sections m h) (member_small c fields m)) all)

-- one row or another, and one with more refusals
pub if_row : (a : Bool) (r s : Row) → IsFormedRow r → IsFormedRow s
    → IsFormedRow (if a then r else s)
if_row true r s h k = h
if_row false r s h k = k

pub more_refused : (fs : List TypeFault) (r : Row) → IsFormedRow r → IsFormedRow (with_refused fs r)
more_refused fs r h none = h (second_empty fs r.refused none)

pub structure_row_formed : (c : Scope) (union : Bool) (e : Given) (children : List Given)
    → IsNamedCleanly e → All IsNamedCleanly children
    → IsFormedRow (structure_row c union e children)
structure_row_formed c union e children clean all =
    more_refused (flag_attr DW_AT_declaration e).refused
    (if is_set (flag_attr DW_AT_declaration e)
    then forward_row c union e else defined_row c union e (tagged DW_TAG_member children))
    (if_row (is_set (flag_attr DW_AT_declaration e)) (forward_row c union e)
    (defined_row c union e (tagged DW_TAG_member children)) (forward_row_formed c union e clean)
    (defined_row_formed c union e (tagged DW_TAG_member children) clean
    (tagged_all IsNamedCleanly DW_TAG_member children all)))
