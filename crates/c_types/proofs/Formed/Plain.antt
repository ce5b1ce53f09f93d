-- Types that need no children, and arrays.
use Rattle.std.proofs.Common.{◌≡◌, ℕ, ℤ, pos, negsuc, ◌<◌, ◌≤◌, ◌^◌, ◌==◌, ◌||◌, ◌&&◌, not, nat_lt}
use Rattle.std.proofs.Common.{Bool, true, false, List, [], length, Option, None, Some}
use Rattle.std.proofs.Common.{if◌then◌else◌, refl, arith}
use Rattle.std.proofs.lemmas.Bool.{ltb-true, and_parts}
use Rattle.std.proofs.lemmas.Bool.Decides.{nat_tests}
use Rattle.std.proofs.lemmas.Option.{none-some}
use Rattle.c_model.specs.Kinds.{row_of, linked_row}
use Rattle.dw_base.specs.Texts.{HasNoNul}
use Rattle.c_model.specs.Forwards.{Tag, declared_tag}
use Rattle.dwarf_forms.specs.Meanings.{Sections}
use Rattle.entry_tree.specs.Items.{Given}
use Rattle.type_attributes.specs.declared.number.Number.{Number}
use Rattle.type_attributes.specs.declared.base.Base.{Base}
use Rattle.type_attributes.specs.declared.base.Base.TheVariants.{Int, Float, Opaque}
use Rattle.type_attributes.specs.Attributes.{name_attr, name_in_full, constant_attr, number_value}
use Rattle.type_attributes.specs.Labels.{Row, plain_label, word_of, size_in}
use Rattle.type_attributes.specs.BaseTypes.{int_word, is_integer, is_float, base_of, code_in}
use Rattle.type_attributes.specs.BaseTypes.{is_whole, base_with, base_label, base_row}
use Rattle.type_attributes.specs.BaseTypes.{unspecified_row}
use Rattle.type_attributes.specs.References.{atomic_name, reference_row, typedef_row}
use Rattle.c_types.specs.Pointers.{pointer_row, tag_attr}
use Rattle.c_types.specs.Types.{plain_row_of}
use Rattle.c_types.specs.Arrays.{elements_of, elements_in, some_long, lengths_of, array_row}
use Rattle.c_types.specs.Formed.{IsFormed}
use Rattle.c_types.proofs.Formed.Names.{IsNamedCleanly, text_clean_of, name_clean, spelled_clean}
use Rattle.c_types.proofs.Formed.Kinds.{no_name, int_formed, float_formed, opaque_formed}
use Rattle.c_types.proofs.Formed.Kinds.{linked_formed, array_formed}
use Rattle.dwarf_abbrev.specs.declared.constants.TheConstants.{DW_AT_bit_size, DW_AT_byte_size}
use Rattle.dwarf_abbrev.specs.declared.constants.TheConstants.{DW_AT_const_value, DW_AT_encoding}
use Rattle.dwarf_abbrev.specs.declared.constants.TheConstants.{DW_TAG_atomic_type, DW_TAG_base_type}
use Rattle.dwarf_abbrev.specs.declared.constants.TheConstants.{DW_TAG_const_type}
use Rattle.dwarf_abbrev.specs.declared.constants.TheConstants.{DW_TAG_restrict_type, DW_TAG_typedef}
use Rattle.dwarf_abbrev.specs.declared.constants.TheConstants.{DW_TAG_unspecified_type}
use Rattle.dwarf_abbrev.specs.declared.constants.TheConstants.{DW_TAG_volatile_type}

-- the type of a row is formed
abbrev pub HasFormed : Row → Type 0
HasFormed r = IsFormed r.made.label (length r.made.targets)

fits_if : (n : ℕ) (t : Bool) → nat_lt n (2 ^ 32) ≡ t → (if t then n else 0) < 2 ^ 32
fits_if n true t = ltb-true n (2 ^ 32) t
fits_if n false t = omega arith

word_fits : (z : ℤ) → word_of z < 2 ^ 32
word_fits (pos n) = fits_if n (nat_lt n (2 ^ 32)) refl
word_fits (negsuc n) = omega arith

pub size_fits : (o : Option ℤ) → size_in o < 2 ^ 32
size_fits None = omega arith
size_fits (Some z) = word_fits z

-- the word of an INT is one
abbrev IsSmall : Base → Type 0
IsSmall (Int extra) = extra < 2 ^ 32
IsSmall Float = Unit {0}
IsSmall Opaque = Unit {0}

chosen : (a : Bool) (x y : Base) → (a ≡ true → IsSmall x) → IsSmall y → IsSmall (if a then x else y)
chosen true x y h k = h refl
chosen false x y h k = k

integer_small : (size : ℕ) → is_integer size ≡ true → size ≤ 16
integer_small size t = grind (arith, nat_tests)

int_small : (encoding size : ℕ) (a : Bool) → encoding ≤ 4 → (a && is_integer size) ≡ true
    → IsSmall (Int (int_word encoding size))
int_small encoding size a le t =
    omega (arith, integer_small size (and_parts a (is_integer size) t).1)

base_small : (size encoding : ℕ) → IsSmall (base_of size encoding)
base_small size encoding =
    chosen (encoding == 2 && is_integer size) (Int (int_word 4 size)) _
    (int_small 4 size (encoding == 2) (omega arith))
    (chosen (encoding == 4 && is_float size) Float _ (λ t. tt)
    (chosen ((encoding == 5 || encoding == 6) && is_integer size) (Int (int_word 1 size)) _
    (int_small 1 size (encoding == 5 || encoding == 6) (omega arith))
    (chosen ((encoding == 7 || encoding == 8 || encoding == 16) && is_integer size)
    (Int (int_word 0 size)) Opaque
    (int_small 0 size (encoding == 7 || encoding == 8 || encoding == 16) (omega arith)) tt)))

with_small : (size : ℕ) (encoding bits : Option Number) → IsSmall (base_with size encoding bits)
with_small size encoding bits = chosen (is_whole size bits) (base_of size (code_in encoding)) Opaque
    (λ t. base_small size (code_in encoding)) tt

label_formed : (name : List ℕ) (size : ℕ) (b : Base) → HasNoNul name → size < 2 ^ 32 → IsSmall b
    → IsFormed (base_label name size b) 0
label_formed name size (Int extra) clean s x = int_formed name size extra clean s x
label_formed name size Float clean s x = float_formed name size clean s
label_formed name size Opaque clean s x = opaque_formed name size clean s

base_formed : (c : Sections) (e : Given) → IsNamedCleanly e → HasFormed (base_row c e)
base_formed c e clean =
    let size = size_in (constant_attr DW_AT_byte_size e).value in
    label_formed (name_in_full (name_attr c e)) size
    (base_with size (number_value (constant_attr DW_AT_encoding e))
    (number_value (constant_attr DW_AT_bit_size e)))
    (name_clean c e clean) (size_fits (constant_attr DW_AT_byte_size e).value) (with_small size
    (number_value (constant_attr DW_AT_encoding e)) (number_value (constant_attr DW_AT_bit_size e)))

unspecified_formed : (c : Sections) (e : Given) → IsNamedCleanly e → HasFormed (unspecified_row c e)
unspecified_formed c e clean =
    opaque_formed (name_in_full (name_attr c e)) 0 (name_clean c e clean) (omega arith)

typedef_formed : (c : Sections) (e : Given) → IsNamedCleanly e → HasFormed (typedef_row c e)
typedef_formed c e clean = linked_formed 8 (name_in_full (name_attr c e)) false refl
    (λ (tag : Tag) (h : declared_tag (plain_label 8 (name_in_full (name_attr c e)) 0) ≡ Some tag).
    none-some tag h) (name_clean c e clean)

reference_formed : (kind : ℕ) (name : List ℕ) (c : Sections) (e : Given) → row_of kind ≡ Some
    (linked_row 1 false) → ((tag : Tag) → declared_tag (plain_label kind name 0) ≡ Some tag → ⊥)
    → HasNoNul name → HasFormed (reference_row kind name c e)
reference_formed kind name c e is none clean = linked_formed kind name false is none clean

atomic_clean : HasNoNul atomic_name
atomic_clean = spelled_clean atomic_name refl

-- where nothing is refused the type is formed
abbrev pub IsFormedRow : Row → Type 0
IsFormedRow r = r.refused ≡ [] → HasFormed r

abbrev pub IsFormedIn : Option Row → Type 0
IsFormedIn None = Unit {0}
IsFormedIn (Some r) = IsFormedRow r

pub either_row : (a : Bool) (r : Row) (o : Option Row) → IsFormedRow r → IsFormedIn o
    → IsFormedIn (if a then Some r else o)
either_row true r o h k = h
either_row false r o h k = k

pub plain_formed : (c : Sections) (e : Given) → IsNamedCleanly e → IsFormedIn (plain_row_of c e)
plain_formed c e clean =
    either_row (e.tag == DW_TAG_typedef) (typedef_row c e) _ (λ n. typedef_formed c e clean)
    (either_row (e.tag == DW_TAG_base_type) (base_row c e) _ (λ n. base_formed c e clean)
    (either_row (e.tag == DW_TAG_const_type) (reference_row 10 [] c e) _
    (λ n. reference_formed 10 [] c e refl (λ
    (tag : Tag) (h : declared_tag (plain_label 10 [] 0) ≡ Some tag). none-some tag h) no_name)
    (either_row (e.tag == DW_TAG_volatile_type) (reference_row 9 [] c e) _
    (λ n. reference_formed 9 [] c e refl
    (λ (tag : Tag) (h : declared_tag (plain_label 9 [] 0) ≡ Some tag). none-some tag h) no_name)
    (either_row (e.tag == DW_TAG_restrict_type) (reference_row 11 [] c e) _
    (λ n. reference_formed 11 [] c e refl (λ
    (tag : Tag) (h : declared_tag (plain_label 11 [] 0) ≡ Some tag). none-some tag h) no_name)
    (either_row (e.tag == DW_TAG_unspecified_type) (unspecified_row c e) _
    (λ n. unspecified_formed c e clean)
    (either_row (e.tag == DW_TAG_atomic_type) (reference_row 8 atomic_name c e) None
    (λ n. reference_formed 8 atomic_name c e refl
    (λ (tag : Tag) (h : declared_tag (plain_label 8 atomic_name 0) ≡ Some tag). none-some tag h)
    atomic_clean) tt))))))

-- pointers, and tag entries
pub pointer_row_formed : (c : Sections) (e : Given) (children : List Given)
    → IsFormedRow (pointer_row c e children)
pointer_row_formed c e children n = linked_formed 2 [] false refl
    (λ (tag : Tag) (h : declared_tag (plain_label 2 [] 0) ≡ Some tag). none-some tag h) no_name

pub tag_formed : (c : Sections) (e : Given) → IsNamedCleanly e
    → IsFormed (plain_label 18 (name_in_full (tag_attr c e)) 0) 1
tag_formed c e clean =
    linked_formed 18 (name_in_full (tag_attr c e)) true refl (λ (tag : Tag)
    (h : declared_tag (plain_label 18 (name_in_full (tag_attr c e)) 0) ≡ Some tag).
    none-some tag h) (text_clean_of DW_AT_const_value c e clean)

-- arrays
few_elements : (os : List (Option ℕ)) (s t : Bool) → nat_lt (elements_of os) (2 ^ 32) ≡ t
    → (if s || not t then 0 else elements_of os) < 2 ^ 32
few_elements os true t e = omega arith
few_elements os false true e = ltb-true (elements_of os) (2 ^ 32) e
few_elements os false false e = omega arith

pub array_row_formed : (c : Sections) (e : Given) (children : List Given)
    → IsFormedRow (array_row c e children)
array_row_formed c e children n =
    array_formed (elements_in (lengths_of children)) (few_elements (lengths_of children)
    (some_long (lengths_of children)) (nat_lt (elements_of (lengths_of children)) (2 ^ 32)) refl)
