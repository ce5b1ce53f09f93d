-- Arrays (DWARF 5, sections 5.5 and 5.13): the elements of all dimensions, the product of the
-- lengths of the subranges.
use Rattle.std.specs.Prelude.{ℕ, ◌+◌, ◌*◌, ◌-◌, ◌^◌, nat_lt, ◌==◌, ◌||◌, not, Bool, true, false, ℤ}
use Rattle.std.specs.Prelude.{List, [], ◌∷◌, ◌++◌, map, Option, None, Some, Result, Ok, Err}
use Rattle.std.specs.Prelude.{if◌then◌else◌}
use Rattle.dwarf_forms.specs.declared.fault.FormFault.{FormFault}
use Rattle.c_model.specs.declared.kinds.TheConstants.{BTF_KIND_ARRAY}
use Rattle.c_model.specs.declared.label.Label.{Label}
use Rattle.dwarf_forms.specs.Values.{Shown}
use Rattle.dwarf_forms.specs.Meanings.{Sections, constant_in}
use Rattle.entry_tree.specs.Items.{Given}
use Rattle.entry_tree.specs.Reads.{value_with}
use Rattle.type_attributes.specs.declared.source.Target.TheVariants.{Index}
use Rattle.type_attributes.specs.declared.number.Number.{Number}
use Rattle.type_attributes.specs.declared.number.Number.TheVariants.{Natural, Negative}
use Rattle.type_attributes.specs.declared.fault.TypeFault.TheVariants.{MissingType, ArrayLength}
use Rattle.type_attributes.specs.Faults.{refuse_if}
use Rattle.type_attributes.specs.Numbers.{number_from}
use Rattle.type_attributes.specs.Attributes.{has, target_attr, target_of_type}
use Rattle.type_attributes.specs.Children.{tagged}
use Rattle.type_attributes.specs.Labels.{Row, type_of}
use Rattle.dwarf_abbrev.specs.declared.constants.TheConstants.{DW_AT_count, DW_AT_type}
use Rattle.dwarf_abbrev.specs.declared.constants.TheConstants.{DW_AT_upper_bound}
use Rattle.dwarf_abbrev.specs.declared.constants.TheConstants.{DW_TAG_subrange_type}

-- a bound that is a constant
abbrev pub bound_by : Result ℤ FormFault → Option Number
bound_by (Ok z) = Some (number_from z)
bound_by (Err f) = None

abbrev pub bound_in : ℕ → Option Shown → Option Number
bound_in attribute None = None
bound_in attribute (Some v) = bound_by (constant_in attribute v)

-- the length that a count gives, None for a negative one; no constant, -1 and 2^64 - 1 stand for a
-- length that is not known, and give 0
abbrev pub length_of_count : Option Number → Option ℕ
length_of_count None = Some 0
length_of_count (Some (Natural n)) = if n == 2 ^ 64 - 1 then Some 0 else Some n
length_of_count (Some (Negative n)) = if n == 0 then Some 0 else None

-- and that an upper bound gives, which is one more; -1, 2^32 - 1 and 2^64 - 1 stand for one that is
-- not known
abbrev pub length_of_bound : Option Number → Option ℕ
length_of_bound None = Some 0
length_of_bound (Some (Natural n)) =
    if n == 2 ^ 32 - 1 || n == 2 ^ 64 - 1 then Some 0 else Some (n + 1)
length_of_bound (Some (Negative n)) = if n == 0 then Some 0 else None

-- a subrange has the length of its count (0x37), if it has one, or of its upper bound (0x2f)
abbrev pub subrange_length : Given → Option ℕ
subrange_length e = if has DW_AT_count e
    then length_of_count (bound_in DW_AT_count (value_with DW_AT_count e.values))
    else length_of_bound (bound_in DW_AT_upper_bound (value_with DW_AT_upper_bound e.values))

-- a length is negative or passes 32 bits
abbrev pub is_long : Option ℕ → Bool
is_long None = true
is_long (Some n) = not (nat_lt n (2 ^ 32))

abbrev pub some_long : List (Option ℕ) → Bool
some_long [] = false
some_long (o ∷ os) = is_long o || some_long os

abbrev pub or_zero : Option ℕ → ℕ
or_zero None = 0
or_zero (Some n) = n

abbrev pub product_of : List (Option ℕ) → ℕ
product_of [] = 1
product_of (o ∷ os) = or_zero o * product_of os

-- without a subrange there are no elements
abbrev pub elements_of : List (Option ℕ) → ℕ
elements_of [] = 0
elements_of (o ∷ os) = product_of (o ∷ os)

abbrev pub lengths_of : List Given → List (Option ℕ)
lengths_of children = map subrange_length (tagged DW_TAG_subrange_type children)

abbrev pub is_refused : List (Option ℕ) → Bool
is_refused lengths = some_long lengths || not (nat_lt (elements_of lengths) (2 ^ 32))

abbrev pub array_label : ℕ → Label
array_label elements =
    record {
      kind = BTF_KIND_ARRAY;
      name = [];
      flag = false;
      size = 0;
      extra = elements;
      parts = [];
    }

-- the number of elements where it fits
abbrev pub elements_in : List (Option ℕ) → ℕ
elements_in lengths = if is_refused lengths then 0 else elements_of lengths

-- an array has a type, and refers to the unit's type of indices besides
abbrev pub array_row : Sections → Given → List Given → Row
array_row c e children =
    let target = target_attr c e in
    let lengths = lengths_of children in
    record {
      made =
          type_of e (array_label (elements_in lengths)) (target_of_type e.at target ∷ Index ∷ []);
      refused = target.refused ++ (refuse_if (not (has DW_AT_type e)) (MissingType e.at)
          ++ refuse_if (is_refused lengths) (ArrayLength e.at));
    }
