-- Base types (DWARF 5, section 5.1) and unspecified types (5.2): an INT where the encoding and the
-- size are those of an integer, a FLOAT where they are those of a floating number, and else a
-- structure of the name and size without members.
use Rattle.std.specs.Prelude.{ℕ, ◌+◌, ◌*◌, ◌^◌, ◌==◌, ◌&&◌, ◌||◌, Bool, true, false, List, [], ◌++◌}
use Rattle.std.specs.Prelude.{Option, None, Some, if◌then◌else◌}
use Rattle.c_model.specs.declared.kinds.TheConstants.{BTF_KIND_INT, BTF_KIND_FLOAT, BTF_KIND_STRUCT}
use Rattle.c_model.specs.declared.label.Label.{Label}
use Rattle.dwarf_abbrev.specs.declared.constants.TheConstants.{DW_ATE_boolean, DW_ATE_float}
use Rattle.dwarf_abbrev.specs.declared.constants.TheConstants.{DW_ATE_signed, DW_ATE_signed_char}
use Rattle.dwarf_abbrev.specs.declared.constants.TheConstants.{DW_ATE_unsigned}
use Rattle.dwarf_abbrev.specs.declared.constants.TheConstants.{DW_ATE_unsigned_char, DW_ATE_UTF}
use Rattle.type_attributes.specs.declared.base.TheConstants.{BTF_INT_SIGNED, BTF_INT_BOOL}
use Rattle.dwarf_forms.specs.Meanings.{Sections}
use Rattle.entry_tree.specs.Items.{Given}
use Rattle.type_attributes.specs.declared.number.Number.{Number}
use Rattle.type_attributes.specs.declared.number.Number.TheVariants.{Natural, Negative}
use Rattle.type_attributes.specs.declared.base.Base.{Base}
use Rattle.type_attributes.specs.declared.base.Base.TheVariants.{Int, Float, Opaque}
use Rattle.type_attributes.specs.declared.fault.TypeFault.TheVariants.{MissingName}
use Rattle.type_attributes.specs.Faults.{refuse_if}
use Rattle.type_attributes.specs.Attributes.{name_attr, name_in_full, constant_attr, number_value}
use Rattle.type_attributes.specs.Labels.{Row, type_of, plain_label, is_empty, size_in}
use Rattle.type_attributes.specs.Labels.{size_refusals}
use Rattle.dwarf_abbrev.specs.declared.constants.TheConstants.{DW_AT_bit_size, DW_AT_byte_size}
use Rattle.dwarf_abbrev.specs.declared.constants.TheConstants.{DW_AT_encoding}

-- sizes of integers and of floating numbers
abbrev pub is_integer : ℕ → Bool
is_integer size = size == 1 || size == 2 || size == 4 || size == 8 || size == 16

abbrev pub is_float : ℕ → Bool
is_float size = size == 2 || size == 4 || size == 8 || size == 12 || size == 16

-- encodings of integers (section 7.8, table 7.11)
abbrev pub is_signed : ℕ → Bool
is_signed encoding = encoding == DW_ATE_signed || encoding == DW_ATE_signed_char

abbrev pub is_unsigned : ℕ → Bool
is_unsigned encoding =
    encoding == DW_ATE_unsigned || encoding == DW_ATE_unsigned_char || encoding == DW_ATE_UTF

-- the word of an INT: BTF's encoding, an offset of 0, and all bits
abbrev pub int_word : ℕ → ℕ → ℕ
int_word encoding size = encoding * 2 ^ 24 + 8 * size

abbrev pub base_of : ℕ → ℕ → Base
base_of size encoding =
    if encoding == DW_ATE_boolean && is_integer size then Int (int_word BTF_INT_BOOL size)
    else if encoding == DW_ATE_float && is_float size then Float
    else if is_signed encoding && is_integer size then Int (int_word BTF_INT_SIGNED size)
    else if is_unsigned encoding && is_integer size then Int (int_word 0 size)
    else Opaque

-- one without encoding has none of these
abbrev pub code_in : Option Number → ℕ
code_in (Some (Natural n)) = n
code_in other = 0

-- a bit size is that of all bytes
abbrev pub is_whole : ℕ → Option Number → Bool
is_whole size None = true
is_whole size (Some (Natural n)) = n == 8 * size
is_whole size (Some (Negative n)) = false

abbrev pub base_with : ℕ → Option Number → Option Number → Base
base_with size encoding bits =
    if is_whole size bits then base_of size (code_in encoding) else Opaque

abbrev pub base_label : List ℕ → ℕ → Base → Label
base_label name size (Int extra) =
    record {
      kind = BTF_KIND_INT;
      name = name;
      flag = false;
      size = size;
      extra = extra;
      parts = [];
    }
base_label name size Float = plain_label BTF_KIND_FLOAT name size
base_label name size Opaque = plain_label BTF_KIND_STRUCT name size

abbrev pub base_row : Sections → Given → Row
base_row c e =
    let name = name_attr c e in
    let size = constant_attr DW_AT_byte_size e in
    let encoding = constant_attr DW_AT_encoding e in
    let bits = constant_attr DW_AT_bit_size e in
    record {
      made = type_of e (base_label (name_in_full name) (size_in size.value)
          (base_with (size_in size.value) (number_value encoding) (number_value bits))) [];
      refused = name.refused ++ (refuse_if (is_empty (name_in_full name)) (MissingName e.at)
          ++ (size.refused
          ++ (size_refusals e.at size.value ++ (encoding.refused ++ bits.refused))));
    }

-- an unspecified type is a structure of its name, if it has one, without members
abbrev pub unspecified_row : Sections → Given → Row
unspecified_row c e = record {
  made = type_of e (plain_label BTF_KIND_STRUCT (name_in_full (name_attr c e)) 0)
      [];
  refused = (name_attr c e).refused;
}
