-- The row of an entry by its tag.
use Rattle.std.proofs.Common.{◌≡◌, ◌==◌, ◌∙◌, false, true, List, Option, None, Some, refl}
use Rattle.entry_tree.specs.Items.{Given}
use Rattle.type_attributes.specs.Scopes.{Scope}
use Rattle.dwarf_abbrev.specs.declared.constants.TheConstants.{DW_TAG_array_type}
use Rattle.dwarf_abbrev.specs.declared.constants.TheConstants.{DW_TAG_enumeration_type}
use Rattle.dwarf_abbrev.specs.declared.constants.TheConstants.{DW_TAG_pointer_type}
use Rattle.dwarf_abbrev.specs.declared.constants.TheConstants.{DW_TAG_structure_type}
use Rattle.dwarf_abbrev.specs.declared.constants.TheConstants.{DW_TAG_subroutine_type}
use Rattle.dwarf_abbrev.specs.declared.constants.TheConstants.{DW_TAG_union_type}
use Rattle.c_types.specs.declared.rows.RowStart.{RowStart}
use Rattle.c_types.specs.Enumerations.{enumeration_row}
use Rattle.c_types.specs.Structures.{structure_row}
use Rattle.c_types.specs.Types.{row_of, plain_row_of}
use Rattle.c_types.specs.Rows.{StartsRow, StartsOne, StartsIn}

pub enumeration_starts : (s : Scope) (e : Given) (start : RowStart)
    → e.tag ≡ DW_TAG_enumeration_type → StartsRow s (enumeration_row s.sections e) start
    → StartsOne s e.depth (row_of s e) start
enumeration_starts s e start tag h =
    record { row = enumeration_row s.sections e; is = λ es. rw tag refl; starts = h }

pub structure_starts : (s : Scope) (e : Given) (start : RowStart)
    → e.tag ≡ DW_TAG_structure_type → StartsRow s (structure_row s false e) start
    → StartsOne s e.depth (row_of s e) start
structure_starts s e start tag h =
    record { row = structure_row s false e; is = λ es. rw tag refl; starts = h }

pub union_starts : (s : Scope) (e : Given) (start : RowStart)
    → e.tag ≡ DW_TAG_union_type → StartsRow s (structure_row s true e) start
    → StartsOne s e.depth (row_of s e) start
union_starts s e start tag h =
    record { row = structure_row s true e; is = λ es. rw tag refl; starts = h }

-- any other entry has the row that needs no children, if it has one
plain_row_is : (s : Scope) (e : Given) (es : List Given)
    → (e.tag == DW_TAG_array_type) ≡ false → (e.tag == DW_TAG_enumeration_type) ≡ false
    → (e.tag == DW_TAG_pointer_type) ≡ false → (e.tag == DW_TAG_structure_type) ≡ false
    → (e.tag == DW_TAG_subroutine_type) ≡ false → (e.tag == DW_TAG_union_type) ≡ false
    → row_of s e es ≡ plain_row_of s.sections e
plain_row_is s e es array enumeration pointer structure subroutine union =
    rw (array, enumeration, pointer, structure, subroutine, union) refl

pub other_starts : (s : Scope) (e : Given) (o : Option RowStart)
    → (e.tag == DW_TAG_array_type) ≡ false → (e.tag == DW_TAG_enumeration_type) ≡ false
    → (e.tag == DW_TAG_pointer_type) ≡ false → (e.tag == DW_TAG_structure_type) ≡ false
    → (e.tag == DW_TAG_subroutine_type) ≡ false → (e.tag == DW_TAG_union_type) ≡ false
    → StartsIn s e.depth (λ (es : List Given). plain_row_of s.sections e) o
    → StartsIn s e.depth (row_of s e) o
other_starts s e None a n p t f u h = λ es. plain_row_is s e es a n p t f u ∙ h es
other_starts s e (Some start) a n p t f u h = record {
  row = h.row;
  is = λ es. plain_row_is s e es a n p t f u ∙ h.is es;
  starts = h.starts;
}
