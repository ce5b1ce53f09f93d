-- Pointers (DWARF 5, section 5.3), and the annotations under them, which compilers write beside the
-- standard. A tag entry is an annotation (0x6000) whose parent is a pointer and whose name is
-- `btf_type_tag`. A pointer refers to its first tag entry, a tag entry to the next one of the same
-- pointer, and the last of these to the pointer's own type.
use Rattle.std.specs.Prelude.{ℕ, ◌-◌, ◌==◌, ◌&&◌, Bool, List, [], ◌∷◌, ◌++◌, codes, Option, None}
use Rattle.std.specs.Prelude.{Some, is_some, if◌then◌else◌}
use Rattle.std.specs.Str.{bytes_eq}
use Rattle.c_model.specs.declared.kinds.TheConstants.{BTF_KIND_PTR, BTF_KIND_TYPE_TAG}
use Rattle.dwarf_forms.specs.Meanings.{Sections}
use Rattle.entry_tree.specs.Items.{Given}
use Rattle.type_attributes.specs.declared.source.SourceType.{SourceType}
use Rattle.type_attributes.specs.declared.source.Target.{Target}
use Rattle.type_attributes.specs.declared.source.Target.TheVariants.{Entry}
use Rattle.type_attributes.specs.declared.fault.TypeFault.{TypeFault}
use Rattle.type_attributes.specs.declared.fault.TypeFault.TheVariants.{MissingName}
use Rattle.type_attributes.specs.Faults.{refuse_if}
use Rattle.type_attributes.specs.Attributes.{Attr, text_attr, name_attr, name_in_full}
use Rattle.type_attributes.specs.Attributes.{target_attr, target_of_type}
use Rattle.type_attributes.specs.Children.{children_of}
use Rattle.type_attributes.specs.Labels.{Row, type_of, plain_label, is_empty}
use Rattle.c_types.specs.Parents.{parent_in}
use Rattle.dwarf_abbrev.specs.declared.constants.TheConstants.{DW_AT_const_value}
use Rattle.dwarf_abbrev.specs.declared.constants.TheConstants.{DW_TAG_pointer_type}
use Rattle.type_attributes.specs.declared.tags.TheConstants.{DW_TAG_GNU_annotation}

-- an annotation with the name of type tags
unfoldable pub is_type_tag : Sections → Given → Bool
is_type_tag c e = e.tag == DW_TAG_GNU_annotation
    && bytes_eq (name_in_full (name_attr c e)) (codes "btf_type_tag")

-- the type that a pointer has of its own
abbrev pub own_target : Sections → Given → Target
own_target c p = target_of_type p.at (target_attr c p)

-- the first type tag among some children of a pointer, which is referred to from a place; without
-- one the pointer's own type
abbrev pub link_to : Sections → ℕ → Target → List Given → Target
link_to c from own [] = own
link_to c from own (k ∷ kids) = if is_type_tag c k then Entry from k.at else link_to c from own kids

abbrev pub pointer_row : Sections → Given → List Given → Row
pointer_row c p children =
    record {
      made =
          type_of p (plain_label BTF_KIND_PTR [] 0) (link_to c p.at (own_target c p) children ∷ []);
      refused = (target_attr c p).refused;
    }

-- the own type of the pointer that is the parent of an entry of a depth, where the parent is a
-- pointer
abbrev pub own_of_pointer : Sections → Option Given → Option Target
own_of_pointer c None = None
own_of_pointer c (Some p) = if p.tag == DW_TAG_pointer_type then Some (own_target c p) else None

abbrev pub pointed_in : Sections → List Given → ℕ → Option Target
pointed_in c earlier depth = own_of_pointer c (parent_in earlier depth)

-- a tag entry, given what its parent points to
abbrev pub is_tag_entry : Sections → Option Target → Given → Bool
is_tag_entry c pointed e = is_some pointed && is_type_tag c e

-- the tag is the const_value (0x1c), read as a name
abbrev pub tag_attr : Sections → Given → Attr (List ℕ)
tag_attr c e = text_attr DW_AT_const_value c e

abbrev pub tag_in : Sections → Option Target → Given → Option (List ℕ)
tag_in c pointed e = if is_tag_entry c pointed e then Some (name_in_full (tag_attr c e)) else None

-- its type, given the pointer's own type and the children of the pointer behind it
abbrev pub tag_type : Sections → Target → Given → List Given → SourceType
tag_type c own e later =
    type_of e (plain_label BTF_KIND_TYPE_TAG (name_in_full (tag_attr c e)) 0)
    (link_to c e.at own later ∷ [])

abbrev pub tag_made : Sections → Option Target → Given → List Given → Option SourceType
tag_made c None e after = None
tag_made c (Some own) e after = Some (tag_type c own e (children_of (e.depth - 1) after))

-- it has a tag that is not empty
abbrev pub tag_refused : Sections → Given → List TypeFault
tag_refused c e = (tag_attr c e).refused
    ++ refuse_if (is_empty (name_in_full (tag_attr c e))) (MissingName e.at)

-- the name of every annotation of a pointer is read, and the tag of a tag entry
abbrev pub annotation_refused : Sections → Option Target → Given → List TypeFault
annotation_refused c pointed e =
    if is_some pointed && e.tag == DW_TAG_GNU_annotation
    then (name_attr c e).refused ++ (if is_type_tag c e then tag_refused c e else [])
    else []
