-- Numbers, headers of units, units, and files of a few sections, in bytes.
use Rattle.std.specs.Prelude.{ℕ, ◌+◌, ◌-◌, ◌==◌, List, [], ◌∷◌, ◌++◌, length}
use Rattle.std.specs.Prelude.{if◌then◌else◌, take, drop, min}
use Rattle.std.specs.List.{flat_map}
use Rattle.std.specs.Int.{to_le_bytes, to_be_bytes, w64}
use Rattle.dw_base.specs.declared.numbers.Order.{Order}
use Rattle.dw_base.specs.declared.numbers.Order.TheVariants.{Little, Big}
use Rattle.small_files.specs.declared.bytes.UnitHeader.{UnitHeader}
use Rattle.small_files.specs.declared.bytes.TheConstants.{INFO_AT, NAMES}

-- the lowest bytes of a number, so many, at most eight
unfoldable pub number_bytes : Order → ℕ → ℕ → List ℕ
number_bytes Little number width = take (min 8 width) (to_le_bytes w64 number)
number_bytes Big number width = drop (8 - width) (to_be_bytes w64 number)

-- numbers, each with how many bytes it has
abbrev pub all_bytes : Order → List (ℕ × ℕ) → List ℕ
all_bytes order numbers = flat_map (λ (n : ℕ × ℕ). number_bytes order n.0 n.1) numbers

-- the length of a unit: before one of eight bytes stand four of ones (DWARF 4 and 5, section 7.4)
abbrev pub length_bytes : Order → UnitHeader → List ℕ
length_bytes order h =
    (if h.offset_bytes == 8 then number_bytes order 4294967295 4 else [])
    ++ number_bytes order h.size h.offset_bytes

-- what stands behind the version (DWARF 4 and 5, section 7.5.1.1)
abbrev pub kind_bytes : Order → UnitHeader → List ℕ
kind_bytes order h =
    if h.version == 4
    then number_bytes order h.abbrev_at h.offset_bytes ++ h.address_size ∷ []
    else h.unit_type ∷ h.address_size ∷ number_bytes order h.abbrev_at h.offset_bytes

-- a header of a unit
unfoldable pub header_bytes : Order → UnitHeader → List ℕ
header_bytes order h =
    length_bytes order h ++ (number_bytes order h.version 2 ++ kind_bytes order h)

-- how many bytes a header with offsets of four bytes has behind its length
abbrev pub fields_of : ℕ → ℕ
fields_of version = if version == 4 then 7 else 8

-- a unit of these entries with offsets of four bytes
unfoldable pub unit_bytes : Order → ℕ → ℕ → List ℕ → List ℕ
unit_bytes order version abbrev_at entries = header_bytes order (record {
  version = version;
  offset_bytes = 4;
  unit_type = 1;
  address_size = 8;
  size = length entries + fields_of version;
  abbrev_at = abbrev_at;
}) ++ entries

-- a section as its header tells it: where its name stands among the names, its type (SHT_NULL or
-- SHT_PROGBITS), and its bytes
pub record Section : Type 0 where
  pub name : ℕ
  pub kind : ℕ
  pub bytes : List ℕ

-- the header of a section at a place
unfoldable pub section_bytes : Order → ℕ → Section → List ℕ
section_bytes order at s =
    all_bytes order ((s.name, 4) ∷ (s.kind, 4) ∷ (0, 8) ∷ (0, 8) ∷ (at, 8)
    ∷ (length s.bytes, 8) ∷ (0, 8) ∷ (0, 8) ∷ (0, 8) ∷ [])

-- the headers of sections that follow one another from a place on
abbrev pub headers_from : Order → ℕ → List Section → List ℕ
headers_from order at [] = []
headers_from order at (s ∷ more) =
    section_bytes order at s ++ headers_from order (at + length s.bytes) more

-- a file's header tells in which order its numbers lie
abbrev pub data_of : Order → ℕ
data_of Little = 1
data_of Big = 2

-- the fields of the header of a file of 64 bits behind e_ident, in order from e_type to e_shstrndx
-- (ELF-64, "ELF Header"): an executable for x86-64 with six section headers behind its header, the
-- last of which is that of the names
abbrev pub header_fields : List (ℕ × ℕ)
header_fields = (2, 2) ∷ (62, 2) ∷ (1, 4) ∷ (0, 8) ∷ (0, 8) ∷ (64, 8) ∷ (0, 4) ∷ (64, 2) ∷ (0, 2)
    ∷ (0, 2) ∷ (64, 2) ∷ (6, 2) ∷ (5, 2) ∷ []

-- the header of the section that is none: 64 bytes of 0
abbrev pub no_section : List (ℕ × ℕ)
no_section = (0, 8) ∷ (0, 8) ∷ (0, 8) ∷ (0, 8) ∷ (0, 8) ∷ (0, 8) ∷ (0, 8) ∷ (0, 8) ∷ []

-- what a file of 64 bits begins with: its header, and that of the section that is none
unfoldable pub start_bytes : Order → List ℕ
start_bytes order = 127 ∷ 69 ∷ 76 ∷ 70 ∷ 2 ∷ data_of order ∷ 1 ∷ 0 ∷ 0 ∷ 0 ∷ 0 ∷ 0 ∷ 0 ∷ 0 ∷ 0 ∷ 0
    ∷ all_bytes order (header_fields ++ no_section)

-- a section that is left out where it has no bytes
abbrev pub optional_of : ℕ → List ℕ → Section
optional_of name bytes =
    record { name = name; kind = if length bytes == 0 then 0 else 1; bytes = bytes }

-- the sections of a file: .debug_info, .debug_abbrev, .debug_str, .debug_line_str and the names
abbrev pub sections_of : List ℕ → List ℕ → List ℕ → List ℕ → List Section
sections_of info abbrevs text line_text =
    (record { name = 1; kind = 1; bytes = info }) ∷ optional_of 13 abbrevs ∷ optional_of 27 text
    ∷ optional_of 38 line_text ∷ optional_of 0 NAMES.now ∷ []

-- what it begins with, the headers of its sections, and the sections
abbrev pub with_sections : Order → List Section → List ℕ
with_sections order all = start_bytes order
    ++ (headers_from order INFO_AT all ++ flat_map (λ (s : Section). s.bytes) all)

-- a file of 64 bits with these sections
unfoldable pub file_bytes : Order → List ℕ → List ℕ → List ℕ → List ℕ → List ℕ
file_bytes order info abbrevs text line_text =
    with_sections order (sections_of info abbrevs text line_text)
