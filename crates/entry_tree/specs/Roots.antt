-- The root of a unit: its first entry, which is a compilation unit or a partial unit.
use Rattle.std.specs.Prelude.{ℕ, ◌≡◌, ◌⊎◌, ◌==◌, ℤ, List, [], Option, None, Some, Result, Ok, Err}
use Rattle.std.specs.Prelude.{if◌then◌else◌}
use Rattle.dwarf_abbrev.specs.declared.constants.TheConstants.{DW_AT_language}
use Rattle.dwarf_abbrev.specs.declared.constants.TheConstants.{DW_AT_str_offsets_base}
use Rattle.dwarf_abbrev.specs.Declarations.{Declaration}
use Rattle.dwarf_forms.specs.Values.{Plain, Shown, Within}
use Rattle.dwarf_forms.specs.Values.Plain.{number}
use Rattle.dwarf_forms.specs.Meanings.{constant_in}
use Rattle.dwarf_forms.specs.declared.fault.FormFault.{FormFault}
use Rattle.dwarf_forms.specs.declared.fault.FormFault.TheVariants.{WrongClass}
use Rattle.dwarf_forms.specs.declared.layout.NumberClass.{NumberClass}
use Rattle.dwarf_forms.specs.declared.layout.NumberClass.TheVariants.{Unsigned, SecOffset}
use Rattle.entry_tree.specs.Reads.{value_with}
use Rattle.entry_tree.specs.Items.{◌>>=◌, Standing, Given, item_at, given_at, of_form}
use Rattle.entry_tree.specs.Items.Standing.{nothing, null, entry}
use Rattle.entry_tree.specs.declared.fault.WalkFault.{WalkFault}
use Rattle.entry_tree.specs.declared.fault.WalkFault.TheVariants.{UnitRoot, Form}
use Rattle.entry_tree.specs.declared.roots.RootInfo.{RootInfo}
use Rattle.entry_tree.specs.Tree.{Found, Item, IsItem}
use Rattle.entry_tree.specs.Refusals.{IsRefused}

abbrev pub as_some : Result ℤ FormFault → Result (Option ℤ) FormFault
as_some (Ok z) = Ok (Some z)
as_some (Err e) = Err e

-- the language of a unit, where its root gives one: a constant
abbrev pub language_in : Option Shown → Result (Option ℤ) FormFault
language_in None = Ok None
language_in (Some g) = as_some (constant_in DW_AT_language g)

-- where the unit's indices into .debug_str_offsets count from: an offset of a section or a
-- constant; without one they count from behind the section's header (DWARF 5, section 7.26), which
-- has 8 bytes, and 16 where offsets have 8
abbrev pub number_base : ℕ → NumberClass → ℕ → Result ℕ FormFault
number_base form SecOffset n = Ok n
number_base form Unsigned n = Ok n
number_base form other n = Err (WrongClass DW_AT_str_offsets_base form)

abbrev pub plain_base : ℕ → Plain → Result ℕ FormFault
plain_base form (number kind n) = number_base form kind n
plain_base form other = Err (WrongClass DW_AT_str_offsets_base form)

abbrev pub base_in : ℕ → Option Shown → Result ℕ FormFault
base_in offset_bytes None = Ok (if offset_bytes == 4 then 8 else 16)
base_in offset_bytes (Some g) = plain_base g.form g.value

-- the first entry
abbrev pub first_item : Within → ℕ → Standing → Result Given WalkFault
first_item c first nothing = Err (UnitRoot first 0)
first_item c first (null end) = Err (UnitRoot first 0)
first_item c first (entry d from end) = Ok (given_at c d from first 0)

abbrev pub first_given : Within → List Declaration → ℕ → Result Given WalkFault
first_given c declarations first = item_at c declarations first first 0 >>= first_item c first

-- what the first entry says: its values are read first, then the language, then the base
unfoldable pub root_of : Within → List Declaration → ℕ → Result RootInfo WalkFault
root_of c declarations first =
    first_given c declarations first >>= λ (g : Given).
    of_form first (language_in (value_with DW_AT_language g.values)) >>= λ (language : Option ℤ).
    of_form first (base_in c.offset_bytes (value_with DW_AT_str_offsets_base g.values))
    >>= λ (base : ℕ).
    Ok (record { tag = g.tag; language = language; str_base = base })

-- the same by the tree: an entry is the first item of the unit, its root
abbrev pub root_item : ℕ → Found → Item
root_item first e = record { at = first; entry = Some e }

abbrev pub IsRootEntry : Within → List Declaration → ℕ → Found → Type 0
IsRootEntry c declarations first e =
    (end : ℕ) × IsItem c declarations [] (root_item first e) end

-- what it says of the unit
pub record RootSays (c : Within) (e : Found) (r : RootInfo) : Type 0 where
  pub tag : r.tag ≡ e.declaration.tag
  pub language : language_in (value_with DW_AT_language e.values) ≡ Ok r.language
  pub base : base_in c.offset_bytes (value_with DW_AT_str_offsets_base e.values) ≡ Ok r.str_base

-- or the first of the two that is of a wrong class
abbrev pub IsWrong : Within → Found → FormFault → Type 0
IsWrong c e g =
    (language_in (value_with DW_AT_language e.values) ≡ Err g)
    ⊎ ((language : Option ℤ) × (language_in (value_with DW_AT_language e.values) ≡ Ok language)
    × (base_in c.offset_bytes (value_with DW_AT_str_offsets_base e.values) ≡ Err g))

-- the root of a unit and what it says; or the first item is refused, or a value of the root
abbrev pub IsRoot : Within → List Declaration → ℕ → Result RootInfo WalkFault → Type 0
IsRoot c declarations first (Ok r) =
    (e : Found) × IsRootEntry c declarations first e × RootSays c e r
IsRoot c declarations first (Err f) =
    IsRefused c declarations [] first f ⊎ ((e : Found) × IsRootEntry c declarations first e
    × (g : FormFault) × IsWrong c e g × (f ≡ Form first g))
