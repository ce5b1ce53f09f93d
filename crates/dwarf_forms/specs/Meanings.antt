-- What values stand for: names, constants, flags, entries and places of members.
use Rattle.std.specs.Prelude.{ℕ, ◌+◌, ◌*◌, ℤ, pos, negsuc, ◌<◌, ◌^◌, Bool, List, length}
use Rattle.std.specs.Prelude.{slice_index, Option, None, Some, Result, Ok, Err, ◌==◌, if◌then◌else◌}
use Rattle.dw_base.specs.Leb128.{uleb_of}
use Rattle.dw_base.specs.Numbers.{number_of}
use Rattle.dw_base.specs.Sections.{bytes_of}
use Rattle.dw_base.specs.Texts.{text_of}
use Rattle.dw_base.specs.declared.numbers.Order.{Order}
use Rattle.dw_base.specs.declared.leb128.LebFault.{LebFault}
use Rattle.dwarf_abbrev.specs.declared.constants.TheConstants.{DW_OP_plus_uconst}
use Rattle.dwarf_forms.specs.declared.fault.FormFault.{FormFault}
use Rattle.dwarf_forms.specs.declared.fault.FormFault.TheVariants.{StringOut, StrxOut, AltForm}
use Rattle.dwarf_forms.specs.declared.fault.FormFault.TheVariants.{WrongClass}
use Rattle.dwarf_forms.specs.declared.layout.NumberClass.{NumberClass}
use Rattle.dwarf_forms.specs.declared.layout.NumberClass.TheVariants.{Unsigned, Strp, LineStrp}
use Rattle.dwarf_forms.specs.declared.layout.NumberClass.TheVariants.{Strx}
use Rattle.dwarf_forms.specs.declared.layout.NumberClass.TheVariants.{UnitRef, InfoRef}
use Rattle.dwarf_forms.specs.declared.layout.BlockClass.{BlockClass}
use Rattle.dwarf_forms.specs.declared.layout.BlockClass.TheVariants.{Expr}
use Rattle.dwarf_forms.specs.declared.given.FormCtx.{FormCtx}
use Rattle.dwarf_forms.specs.Values.{Plain, Shown}
use Rattle.dwarf_forms.specs.Values.Plain.{number, signed, bytes, text, flag, elsewhere}

-- what names and references are read in: the unit's first byte, how its numbers lie, and the
-- sections of strings
pub record Sections : Type 0 where
  pub unit : ℕ
  pub order : Order
  pub offset_bytes : ℕ
  pub strings : List ℕ
  pub line_strings : List ℕ
  pub str_offsets : List ℕ
  pub str_base : ℕ

abbrev pub sections : FormCtx → Sections
sections c =
    record {
      unit = c.unit;
      order = c.order;
      offset_bytes = c.offset_bytes;
      strings = bytes_of c.strings;
      line_strings = bytes_of c.line_strings;
      str_offsets = c.str_offsets.now;
      str_base = c.str_base;
    }

-- the text at an offset of a section of strings
abbrev pub or_out : ℕ → Option (List ℕ) → Result (List ℕ) FormFault
or_out offset None = Err (StringOut offset)
or_out offset (Some t) = Ok t

abbrev pub string_at : List ℕ → ℕ → Result (List ℕ) FormFault
string_at section offset = or_out offset (text_of section offset)

-- the text at the offset that stands at an index
abbrev pub through : List ℕ → ℕ → Option ℕ → Result (List ℕ) FormFault
through strings index None = Err (StrxOut index)
through strings index (Some offset) = string_at strings offset

abbrev pub indexed_at : Sections → ℕ → Result (List ℕ) FormFault
indexed_at c index = through c.strings index
    (number_of c.str_offsets (c.str_base + index * c.offset_bytes) c.offset_bytes c.order)

abbrev pub number_name : Sections → ℕ → ℕ → NumberClass → ℕ → Result (List ℕ) FormFault
number_name c attribute form Strp n = string_at c.strings n
number_name c attribute form LineStrp n = string_at c.line_strings n
number_name c attribute form Strx n = indexed_at c n
number_name c attribute form other n = Err (WrongClass attribute form)

-- a text is its own name; a number names one by its section; a name in a supplementary file is not
-- read; no other value has one
abbrev pub plain_name : Sections → ℕ → ℕ → Plain → Result (List ℕ) FormFault
plain_name c attribute form (text t) = Ok t
plain_name c attribute form (number kind n) = number_name c attribute form kind n
plain_name c attribute form (elsewhere f) = Err (AltForm f)
plain_name c attribute form other = Err (WrongClass attribute form)

abbrev pub name_in : Sections → ℕ → Shown → Result (List ℕ) FormFault
name_in c attribute g = plain_name c attribute g.form g.value

-- what a value means, where it can be read
abbrev pub meant : {A : Type 0} → (Shown → Result A FormFault) → Result (Shown × ℕ) FormFault
    → Result A FormFault
meant meaning (Ok x) = meaning x.0
meant meaning (Err e) = Err e

-- a constant has 64 bits, signed or unsigned
abbrev pub Fits64 : ℤ → Type 0
Fits64 (pos n) = n < 2 ^ 64
Fits64 (negsuc n) = n < 2 ^ 63

-- a constant; one of 16 bytes is none
abbrev pub number_constant : ℕ → ℕ → NumberClass → ℕ → Result ℤ FormFault
number_constant attribute form Unsigned n = Ok (pos n)
number_constant attribute form other n = Err (WrongClass attribute form)

abbrev pub plain_constant : ℕ → ℕ → Plain → Result ℤ FormFault
plain_constant attribute form (number kind n) = number_constant attribute form kind n
plain_constant attribute form (signed z) = Ok z
plain_constant attribute form other = Err (WrongClass attribute form)

abbrev pub constant_in : ℕ → Shown → Result ℤ FormFault
constant_in attribute g = plain_constant attribute g.form g.value

abbrev pub plain_flag : ℕ → ℕ → Plain → Result Bool FormFault
plain_flag attribute form (flag b) = Ok b
plain_flag attribute form other = Err (WrongClass attribute form)

abbrev pub flag_in : ℕ → Shown → Result Bool FormFault
flag_in attribute g = plain_flag attribute g.form g.value

-- the offset in .debug_info of the entry that a value refers to: one within a unit counts from the
-- unit's first header byte
abbrev pub number_target : Sections → ℕ → ℕ → NumberClass → ℕ → Result ℕ FormFault
number_target c attribute form UnitRef n = Ok (c.unit + n)
number_target c attribute form InfoRef n = Ok n
number_target c attribute form other n = Err (WrongClass attribute form)

abbrev pub plain_target : Sections → ℕ → ℕ → Plain → Result ℕ FormFault
plain_target c attribute form (number kind n) = number_target c attribute form kind n
plain_target c attribute form (elsewhere f) = Err (AltForm f)
plain_target c attribute form other = Err (WrongClass attribute form)

abbrev pub target_in : Sections → ℕ → Shown → Result ℕ FormFault
target_in c attribute g = plain_target c attribute g.form g.value

-- the operand of an expression that is one plus_uconst and no more (DWARF 5, section 2.5.1.4)
abbrev pub whole_to : ℕ → Result (ℕ × ℕ) LebFault → Option ℤ
whole_to end (Ok x) = if x.1 == end then Some (pos x.0) else None
whole_to end (Err e) = None

unfoldable pub operand_of : List ℕ → Option ℤ
operand_of expression = if slice_index expression 0 == DW_OP_plus_uconst
    then whole_to (length expression) (uleb_of expression 1) else None

abbrev pub bytes_offset : ℕ → ℕ → BlockClass → List ℕ → Result (Option ℤ) FormFault
bytes_offset attribute form Expr bs = Ok (operand_of bs)
bytes_offset attribute form other bs = Err (WrongClass attribute form)

abbrev pub as_offset : Result ℤ FormFault → Result (Option ℤ) FormFault
as_offset (Ok z) = Ok (Some z)
as_offset (Err e) = Err e

-- the offset in bytes of a member: a constant, or what an expression adds
abbrev pub plain_offset : ℕ → ℕ → Plain → Result (Option ℤ) FormFault
plain_offset attribute form (number kind n) = as_offset (number_constant attribute form kind n)
plain_offset attribute form (signed z) = Ok (Some z)
plain_offset attribute form (bytes kind bs) = bytes_offset attribute form kind bs
plain_offset attribute form other = Err (WrongClass attribute form)

abbrev pub offset_in : ℕ → Shown → Result (Option ℤ) FormFault
offset_in attribute g = plain_offset attribute g.form g.value
