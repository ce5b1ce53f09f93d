-- The units of .debug_info (DWARF 5, sections 7.4 and 7.5.1; DWARF 4, section 7.5.1.1): their
-- headers follow one another from 0 to the section's end.
use Rattle.std.specs.Prelude.{ℕ, zero, suc, ◌≡◌, ◌+◌, ◌<◌, ◌≤◌, ◌==◌, ◌||◌, nat_lt, nat_le, get_or}
use Rattle.std.specs.Prelude.{List, [], ◌∷◌, ◌++◌, length, take, Option, None, Some, Result, Ok}
use Rattle.std.specs.Prelude.{Err, if◌then◌else◌, ⊤}
use Rattle.std.specs.Option.{unwrap_or}
use Rattle.dw_base.specs.Numbers.{number_of}
use Rattle.dw_base.specs.declared.numbers.Order.{Order}
use Rattle.dwarf_abbrev.specs.declared.constants.TheConstants.{DW_UT_compile, DW_UT_partial}
use Rattle.dwarf_forms.specs.Forms.{HasWidth}
use Rattle.entry_tree.specs.declared.unit.Unit.{Unit}
use Rattle.entry_tree.specs.declared.unit.UnitFault.{UnitFault}
use Rattle.entry_tree.specs.declared.unit.UnitFault.TheVariants.{UnitLength, UnitVersion, UnitType}
use Rattle.entry_tree.specs.declared.unit.UnitFault.TheVariants.{AddressSize, Memory}
use Rattle.entry_tree.specs.declared.headers.UnitSpan.{UnitSpan}
use Rattle.entry_tree.specs.declared.headers.Fields.{Fields}

infixl 10 ◌>>=◌
abbrev pub ◌>>=◌ : {A B : Type 0} → Result A UnitFault → (A → Result B UnitFault)
    → Result B UnitFault
(Ok x) >>= f = f x
(Err e) >>= f = Err e

abbrev pub or_short : {A : Type 0} → ℕ → Option A → Result A UnitFault
or_short at None = Err (UnitLength at)
or_short at (Some x) = Ok x

-- a unit whose length counts from `after` on, and whose offsets have so many bytes
abbrev pub extent_of : List ℕ → ℕ → ℕ → ℕ → ℕ → Result UnitSpan UnitFault
extent_of info at offset_bytes after size =
    if nat_le (after + size) (length info) then Ok (record {
      offset_bytes = offset_bytes;
      after = after;
      end = after + size;
    }) else Err (UnitLength at)

-- a unit lies in the section behind its length, and its offsets have the width of a number
pub record IsInside (info : List ℕ) (e : UnitSpan) : Type 0 where
  pub behind : e.after ≤ e.end
  pub inside : e.end ≤ length info
  pub width : HasWidth e.offset_bytes

-- the initial length (section 7.4): 4 bytes; or the escape 0xffffffff and 8 bytes, and then offsets
-- have 8 bytes. From 0xfffffff0 on the other values are reserved. The unit ends inside the section.
unfoldable pub extent_at : List ℕ → Order → ℕ → Result UnitSpan UnitFault
extent_at info order at =
    or_short at (number_of info at 4 order) >>= λ (short : ℕ).
    if short == 0xffffffff then (or_short at (number_of info (at + 4) 8 order) >>= λ (long : ℕ).
    extent_of info at 8 (at + 12) long)
    else (if nat_lt short 0xfffffff0 then extent_of info at 4 (at + 4) short
    else Err (UnitLength at))

-- where the fields behind the version stand, and behind them the unit's first entry, where an
-- offset has w bytes. In the order of the bytes:
--   DWARF 4, section 7.5.1.1: debug_abbrev_offset (w), address_size (1)
--   DWARF 5, section 7.5.1:   unit_type (1), address_size (1), debug_abbrev_offset (w)
abbrev pub fields_of_4 : ℕ → ℕ → Fields
fields_of_4 after w = record {
  unit_type_at = None;
  abbrev_at = after;
  address_size_at = after + w;
  first = after + w + 1;
}

abbrev pub fields_of_5 : ℕ → ℕ → Fields
fields_of_5 after w = record {
  unit_type_at = Some after;
  abbrev_at = after + 2;
  address_size_at = after + 1;
  first = after + 2 + w;
}

-- the versions that are read
abbrev pub fields_of : ℕ → ℕ → ℕ → ℕ → Result Fields UnitFault
fields_of at version after w = if version == 4 then Ok (fields_of_4 after w) else if version == 5
    then Ok (fields_of_5 after w) else Err (UnitVersion at version)

-- an offset in the unit's bytes
abbrev pub offset_in : List ℕ → Order → ℕ → ℕ → ℕ
offset_in unit order at width = unwrap_or (number_of unit at width order) 0

-- compilation units and partial units
abbrev pub check_type : ℕ → ℕ → Result ℕ UnitFault
check_type at unit_type = if unit_type == DW_UT_compile || unit_type == DW_UT_partial
    then Ok unit_type else Err (UnitType at unit_type)

-- the unit's type; a header without one is that of a compilation unit
abbrev pub type_in : List ℕ → ℕ → Option ℕ → Result ℕ UnitFault
type_in unit at (Some place) = check_type at (get_or unit place 0)
type_in unit at None = Ok DW_UT_compile

abbrev pub check_address : ℕ → ℕ → Result ℕ UnitFault
check_address at size = if size == 4 || size == 8 then Ok size else Err (AddressSize at size)

-- the header of the unit at a place, or the first of its checks that fails: the length, two bytes
-- of version, the version, the whole header of that version inside the unit, the unit's type in
-- version 5, and the size of its addresses
unfoldable pub unit_at : List ℕ → Order → ℕ → Result Unit UnitFault
unit_at info order at =
    extent_at info order at >>= λ (e : UnitSpan).
    or_short at (number_of (take e.end info) e.after 2 order) >>= λ (version : ℕ).
    fields_of at version (e.after + 2) e.offset_bytes >>= λ (f : Fields).
    (if nat_le f.first e.end then Ok f else Err (UnitLength at)) >>= λ (whole : Fields).
    type_in (take e.end info) at f.unit_type_at >>= λ (unit_type : ℕ).
    check_address at (get_or (take e.end info) f.address_size_at 0) >>= λ (address_bytes : ℕ).
    Ok (record {
      at = at;
      first = f.first;
      end = e.end;
      abbrev_at = offset_in (take e.end info) order f.abbrev_at e.offset_bytes;
      address_bytes = address_bytes;
      offset_bytes = e.offset_bytes;
      version = version;
      unit_type = unit_type;
    })

-- the units from a place on, where at most n begin there
unfoldable pub units_from : List ℕ → Order → ℕ → ℕ → Result (List Unit) UnitFault
units_from info order zero at = Ok []
units_from info order (suc n) at =
    if nat_le (length info) at then Ok []
    else (unit_at info order at >>= λ (u : Unit). units_from info order n u.end
    >>= λ (us : List Unit). Ok (u ∷ us))

-- units that were read before those of an answer
abbrev pub appended : List Unit → Result (List Unit) UnitFault → Result (List Unit) UnitFault
appended seen r = r >>= λ (us : List Unit). Ok (seen ++ us)

-- the units of a section, or the fault of the first header that fails
unfoldable pub units_of : List ℕ → Order → Result (List Unit) UnitFault
units_of info order = units_from info order (length info) 0

-- units that follow one another from a place to another
abbrev pub Follow : List ℕ → Order → ℕ → List Unit → ℕ → Type 0
Follow info order at [] end = at ≡ end
Follow info order at (u ∷ us) end = (unit_at info order at ≡ Ok u) × Follow info order u.end us end

-- these are the units of a section
abbrev pub AreUnits : List ℕ → Order → List Unit → Type 0
AreUnits info order us = Follow info order 0 us (length info)

-- behind some units that follow one another from 0 the next header fails
abbrev pub IsRefused : List ℕ → Order → UnitFault → Type 0
IsRefused info order f = (before : List Unit) × (at : ℕ) × Follow info order 0 before at
    × (at < length info) × (unit_at info order at ≡ Err f)

-- what a reader answers: the units, or the fault of the first header that fails, or want of memory
abbrev pub Reads : List ℕ → Order → Result (List Unit) UnitFault → Type 0
Reads info order (Ok us) = AreUnits info order us
Reads info order (Err Memory) = ⊤
Reads info order (Err f) = IsRefused info order f

-- the same by the function
abbrev pub Gives : Result (List Unit) UnitFault → Result (List Unit) UnitFault → Type 0
Gives (Ok us) read = read ≡ Ok us
Gives (Err Memory) read = ⊤
Gives (Err f) read = read ≡ Err f
