-- A tag without a row of its own, and one of no type at all.
use Rattle.std.proofs.Common.{◌≡◌, ◌==◌, Bool, true, false, ◌||◌, None, Some, ℕ, List, [], refl}
use Rattle.std.proofs.Common.{Option, ◌∙◌}
use Rattle.dwarf_abbrev.specs.declared.constants.TheConstants.{DW_TAG_array_type}
use Rattle.dwarf_abbrev.specs.declared.constants.TheConstants.{DW_TAG_atomic_type, DW_TAG_base_type}
use Rattle.dwarf_abbrev.specs.declared.constants.TheConstants.{DW_TAG_const_type}
use Rattle.dwarf_abbrev.specs.declared.constants.TheConstants.{DW_TAG_enumeration_type}
use Rattle.dwarf_abbrev.specs.declared.constants.TheConstants.{DW_TAG_pointer_type}
use Rattle.dwarf_abbrev.specs.declared.constants.TheConstants.{DW_TAG_restrict_type, DW_TAG_typedef}
use Rattle.dwarf_abbrev.specs.declared.constants.TheConstants.{DW_TAG_structure_type}
use Rattle.dwarf_abbrev.specs.declared.constants.TheConstants.{DW_TAG_subroutine_type}
use Rattle.dwarf_abbrev.specs.declared.constants.TheConstants.{DW_TAG_union_type}
use Rattle.dwarf_abbrev.specs.declared.constants.TheConstants.{DW_TAG_unspecified_type}
use Rattle.dwarf_abbrev.specs.declared.constants.TheConstants.{DW_TAG_volatile_type}
use Rattle.dwarf_forms.specs.Meanings.{Sections}
use Rattle.entry_tree.specs.Items.{Given}
use Rattle.type_attributes.specs.Scopes.{Scope}
use Rattle.type_attributes.specs.declared.source.Target.{Target}
use Rattle.type_attributes.specs.declared.tags.TheConstants.{DW_TAG_GNU_annotation}
use Rattle.c_types.specs.Pointers.{is_tag_entry, annotation_refused, own_of_pointer}
use Rattle.c_types.specs.Types.{has_plain_row, is_of_types, plain_row_of, row_of, made_of}
use Rattle.c_types.specs.Types.{refused_of}
use Rattle.c_types.proofs.OpenPointers.{tag_is}

both_false : (a b : Bool) → (a || b) ≡ false → (a ≡ false) × (b ≡ false)
both_false true b h = cc
both_false false b h = (refl, h)

pub no_plain_row : (c : Sections) (e : Given) → has_plain_row e.tag ≡ false
    → plain_row_of c e ≡ None
no_plain_row c e h =
    let typedef = e.tag == DW_TAG_typedef in
    let base = e.tag == DW_TAG_base_type in
    let const' = e.tag == DW_TAG_const_type in
    let volatile = e.tag == DW_TAG_volatile_type in
    let restrict = e.tag == DW_TAG_restrict_type in
    let unspecified = e.tag == DW_TAG_unspecified_type in
    let a = both_false (typedef || base || const' || volatile || restrict || unspecified)
    (e.tag == DW_TAG_atomic_type) h in
    let u = both_false (typedef || base || const' || volatile || restrict) unspecified a.0 in
    let r = both_false (typedef || base || const' || volatile) restrict u.0 in
    let v = both_false (typedef || base || const') volatile r.0 in
    let k = both_false (typedef || base) const' v.0 in
    let b = both_false typedef base k.0 in
    rw (b.0, b.1, k.1, v.1, r.1, u.1, a.1) refl

-- an entry of a tag of no type: it has no row, and is no type tag
record IsOfNone (tag : ℕ) : Type 0 where
  plain : has_plain_row tag ≡ false
  pointer : (tag == DW_TAG_pointer_type) ≡ false
  structure : (tag == DW_TAG_structure_type) ≡ false
  union : (tag == DW_TAG_union_type) ≡ false
  array : (tag == DW_TAG_array_type) ≡ false
  subroutine : (tag == DW_TAG_subroutine_type) ≡ false
  enumeration : (tag == DW_TAG_enumeration_type) ≡ false
  annotation : (tag == DW_TAG_GNU_annotation) ≡ false

of_none : (tag : ℕ) → is_of_types tag ≡ false → IsOfNone tag
of_none tag h =
    let plain = has_plain_row tag in
    let pointer = tag == DW_TAG_pointer_type in
    let structure = tag == DW_TAG_structure_type in
    let union = tag == DW_TAG_union_type in
    let array = tag == DW_TAG_array_type in
    let subroutine = tag == DW_TAG_subroutine_type in
    let enumeration = tag == DW_TAG_enumeration_type in
    let n = both_false (plain || pointer || structure || union || array || subroutine
    || enumeration) (tag == DW_TAG_GNU_annotation) h in
    let e = both_false (plain || pointer || structure || union || array || subroutine)
    enumeration n.0 in
    let f = both_false (plain || pointer || structure || union || array) subroutine e.0 in
    let a = both_false (plain || pointer || structure || union) array f.0 in
    let u = both_false (plain || pointer || structure) union a.0 in
    let s = both_false (plain || pointer) structure u.0 in
    let p = both_false plain pointer s.0 in
    record {
      plain = p.0;
      pointer = p.1;
      structure = s.1;
      union = u.1;
      array = a.1;
      subroutine = f.1;
      enumeration = e.1;
      annotation = n.1;
    }

no_row : (s : Scope) (e : Given) (es : List Given) → IsOfNone e.tag → row_of s e es ≡ None
no_row s e es n = rw (n.array, n.enumeration, n.pointer, n.structure, n.subroutine, n.union)
    (no_plain_row s.sections e n.plain)

pub no_tag : (c : Sections) (pointed : Option Target) (e : Given) → is_of_types e.tag ≡ false
    → is_tag_entry c pointed e ≡ false
no_tag c None e h = refl
no_tag c (Some own) e h = tag_is c e ∙ rw (of_none e.tag h).annotation refl

no_annotation_refused : (c : Sections) (pointed : Option Target) (e : Given)
    → (e.tag == DW_TAG_GNU_annotation) ≡ false → annotation_refused c pointed e ≡ []
no_annotation_refused c None e h = refl
no_annotation_refused c (Some own) e h = rw h refl

pub none_made : (s : Scope) (pointed : Option Target) (e : Given) (es : List Given)
    → is_of_types e.tag ≡ false → made_of s pointed e es ≡ None
none_made s pointed e es h =
    let row = no_row s e es (of_none e.tag h) in
    rw (no_tag s.sections pointed e h, row) refl

pub none_refused : (s : Scope) (pointed : Option Target) (e : Given) (es : List Given)
    → is_of_types e.tag ≡ false → refused_of s pointed e es ≡ []
none_refused s pointed e es h =
    let n = of_none e.tag h in
    rw (no_annotation_refused s.sections pointed e n.annotation, no_row s e es n) refl

pub none_own : (c : Sections) (e : Given) → is_of_types e.tag ≡ false
    → own_of_pointer c (Some e) ≡ None
none_own c e h = rw (of_none e.tag h).pointer refl
