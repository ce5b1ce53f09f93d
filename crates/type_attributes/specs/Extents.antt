-- How many bytes the objects of a type have, as far as the storage of a bit field needs it (DWARF
-- 4, section 5.5.6): a type says so by its byte_size (0x0b), and a typedef, const, volatile,
-- restrict or atomic type without one has the size of the type that it names.
use Rattle.std.specs.Prelude.{ℕ, zero, suc, ◌==◌, ◌||◌, Bool, List, [], ◌∷◌, Option, None, Some}
use Rattle.std.specs.Prelude.{if◌then◌else◌}
use Rattle.dwarf_forms.specs.Meanings.{Sections}
use Rattle.entry_tree.specs.Items.{Given}
use Rattle.type_attributes.specs.declared.number.Number.{Number}
use Rattle.type_attributes.specs.declared.extents.Extent.{Extent}
use Rattle.type_attributes.specs.declared.extents.Extent.TheVariants.{Bytes, SameAs, Unknown}
use Rattle.type_attributes.specs.Scopes.{Scope}
use Rattle.type_attributes.specs.Attributes.{has, constant_attr, number_value, target_attr}
use Rattle.dwarf_abbrev.specs.declared.constants.TheConstants.{DW_AT_byte_size, DW_TAG_atomic_type}
use Rattle.dwarf_abbrev.specs.declared.constants.TheConstants.{DW_TAG_const_type}
use Rattle.dwarf_abbrev.specs.declared.constants.TheConstants.{DW_TAG_restrict_type, DW_TAG_typedef}
use Rattle.dwarf_abbrev.specs.declared.constants.TheConstants.{DW_TAG_volatile_type}

abbrev pub stands_for_another : ℕ → Bool
stands_for_another tag = tag == DW_TAG_typedef || tag == DW_TAG_const_type || tag
    == DW_TAG_volatile_type || tag == DW_TAG_restrict_type || tag == DW_TAG_atomic_type

abbrev pub by_size : Option Number → Extent
by_size None = Unknown
by_size (Some n) = Bytes n

abbrev pub by_type : Option ℕ → Extent
by_type None = Unknown
by_type (Some at) = SameAs at

-- what an entry says; a value of the wrong class says nothing
abbrev pub extent_of : Sections → Given → Extent
extent_of c e =
    if has DW_AT_byte_size e then by_size (number_value (constant_attr DW_AT_byte_size e))
    else (if stands_for_another e.tag then by_type (target_attr c e).value else Unknown)

-- what the entry says that begins at a place
abbrev pub extent_at : Sections → List Given → ℕ → Extent
extent_at c [] at = Unknown
extent_at c (e ∷ es) at = if e.at == at then extent_of c e else extent_at c es at

-- the bytes that are said in the end, where at most so many types are followed
abbrev pub bytes_after : (ℕ → Extent) → ℕ → Extent → Option Number
bytes_after says most (Bytes n) = Some n
bytes_after says most Unknown = None
bytes_after says zero (SameAs at) = None
bytes_after says (suc most) (SameAs at) = bytes_after says most (says at)

abbrev pub most_followed : ℕ
most_followed = 64

-- of the type at a place of a unit
abbrev pub bytes_at : Scope → ℕ → Option Number
bytes_at s at =
    bytes_after (extent_at s.sections s.entries) most_followed (extent_at s.sections s.entries at)
