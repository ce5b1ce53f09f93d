-- An open pointer comes to its row, or its last tag entry to its type, one child after the other.
use Rattle.std.proofs.Common.{◌≡◌, ◌≢◌, ℕ, ◌==◌, ◌&&◌, Bool, true, false, List, [], ◌∷◌, Option}
use Rattle.std.proofs.Common.{None, Some, if◌then◌else◌, refl, sym, ap, ◌∙◌}
use Rattle.std.specs.Prelude.{codes}
use Rattle.std.proofs.lemmas.Bool.{eqb-true, ne_eqb, and_parts}
use Rattle.std.proofs.lemmas.Option.{none-some, same_Some}
use Rattle.std.specs.Str.{bytes_eq}
use Rattle.dwarf_forms.specs.Meanings.{Sections}
use Rattle.entry_tree.specs.Items.{Given}
use Rattle.c_types.specs.declared.open.OpenPointer.{OpenPointer}
use Rattle.type_attributes.specs.declared.source.Target.{Target}
use Rattle.type_attributes.specs.declared.source.Target.TheVariants.{Entry}
use Rattle.type_attributes.specs.Scopes.{Scope}
use Rattle.type_attributes.specs.Attributes.{name_attr, name_in_full}
use Rattle.c_types.specs.Pointers.{is_type_tag, link_to, is_tag_entry, tag_attr, tag_in}
use Rattle.c_types.specs.Opened.{pointer_by, pointer_made}
use Rattle.c_types.specs.Types.{row_of}
use Rattle.type_attributes.specs.declared.tags.TheConstants.{DW_TAG_GNU_annotation}

pub made_is : (c : Sections) (o : OpenPointer) (kids : List Given)
    → pointer_made c o kids ≡ pointer_by o (link_to c o.at o.own kids)
unfolding pointer_made
made_is c o kids = refl

-- without children to come
pub made_closed : (c : Sections) (o : OpenPointer) → pointer_made c o [] ≡ pointer_by o o.own
made_closed c o = made_is c o []

-- a child that is no type tag
pub pointer_passes : (c : Sections) (e : Given) (o : OpenPointer) (kids : List Given)
    → is_type_tag c e ≡ false → pointer_made c o kids ≡ pointer_made c o (e ∷ kids)
pointer_passes c e o kids untagged =
    let past : link_to c o.at o.own (e ∷ kids) ≡ link_to c o.at o.own kids = rw untagged refl in
    made_is c o kids ∙ ap (λ (t : Target). pointer_by o t) (sym past) ∙ sym (made_is c o (e ∷ kids))

-- and one that is
pub pointer_linked : (c : Sections) (e : Given) (o : OpenPointer) (kids : List Given)
    → is_type_tag c e ≡ true → pointer_made c o (e ∷ kids) ≡ pointer_by o (Entry o.at e.at)
pointer_linked c e o kids tagged =
    let here : link_to c o.at o.own (e ∷ kids) ≡ Entry o.at e.at = rw tagged refl in
    made_is c o (e ∷ kids) ∙ ap (λ (t : Target). pointer_by o t) here

-- what a type tag is
pub tag_is : (c : Sections) (e : Given) → is_type_tag c e
    ≡ (e.tag == DW_TAG_GNU_annotation
    && bytes_eq (name_in_full (name_attr c e)) (codes "btf_type_tag"))
unfolding is_type_tag
tag_is c e = refl

pub tag_by : (c : Sections) (e : Given) (b : Bool) → e.tag ≡ DW_TAG_GNU_annotation
    → b ≡ bytes_eq (name_in_full (name_attr c e)) (codes "btf_type_tag") → is_type_tag c e ≡ b
tag_by c e b is named = tag_is c e ∙ rw is (sym named)

pub other_tag : (c : Sections) (e : Given) → e.tag ≢ DW_TAG_GNU_annotation → is_type_tag c e ≡ false
other_tag c e ne = let differs : (e.tag == DW_TAG_GNU_annotation) ≡ false =
    ne_eqb e.tag DW_TAG_GNU_annotation ne in
    tag_is c e ∙ rw differs refl

pub no_annotation : (c : Sections) (pointed : Option Target) (e : Given)
    → e.tag ≢ DW_TAG_GNU_annotation
    → tag_in c pointed e ≡ None
no_annotation c None e ne = refl
no_annotation c (Some own) e ne = rw (other_tag c e ne) refl

-- what the tag of a tag entry tells
told_by : (b : Bool) (m n : List ℕ) → (if b then Some m else None) ≡ Some n → (b ≡ true) × (n ≡ m)
told_by true m n is = (refl, sym (same_Some m n is))
told_by false m n is = absurd (none-some n is)

pub tag_told : (c : Sections) (e : Given) (n : List ℕ) (own : Target) (t : Bool)
    → tag_in c (if t then Some own else None) e ≡ Some n
    → (t ≡ true) × (is_type_tag c e ≡ true) × (n ≡ name_in_full (tag_attr c e))
tag_told c e n own true is = let t =
    told_by (is_type_tag c e) (name_in_full (tag_attr c e)) n is in (refl, t.0, t.1)
tag_told c e n own false is = absurd (none-some n is)

pub tag_untold : (c : Sections) (e : Given) (n : List ℕ) (pointed : Option Target) → pointed ≡ None
    → tag_in c pointed e ≡ Some n → ⊥
tag_untold c e n pointed none is =
    none-some n (ap (λ (x : Option Target). tag_in c x e) (sym none) ∙ is)

pub tag_is_annotation : (c : Sections) (pointed : Option Target) (e : Given) (n : List ℕ)
    → tag_in c pointed e ≡ Some n → e.tag ≡ DW_TAG_GNU_annotation
tag_is_annotation c None e n is = absurd (none-some n is)
tag_is_annotation c (Some own) e n is =
    let both : (e.tag == DW_TAG_GNU_annotation
    && bytes_eq (name_in_full (name_attr c e)) (codes "btf_type_tag"))
    ≡ true = sym (tag_is c e)
    ∙ (told_by (is_type_tag c e) (name_in_full (tag_attr c e)) n is).0 in
    eqb-true e.tag DW_TAG_GNU_annotation (and_parts (e.tag == DW_TAG_GNU_annotation)
    (bytes_eq (name_in_full (name_attr c e)) (codes "btf_type_tag")) both).0

untold_by : (b : Bool) (m : List ℕ) → None ≡ (if b then Some m else None) → b ≡ false
untold_by true m is = absurd (none-some m is)
untold_by false m is = refl

pub no_tag_entry : (c : Sections) (pointed : Option Target) (e : Given) → None ≡ tag_in c pointed e
    → is_tag_entry c pointed e ≡ false
no_tag_entry c pointed e is = untold_by (is_tag_entry c pointed e) (name_in_full (tag_attr c e)) is

-- a tag entry has no row
pub tag_rowless : (c : Scope) (e : Given) (es : List Given) → e.tag ≡ DW_TAG_GNU_annotation
    → row_of c e es ≡ None
tag_rowless c e es is = rw is refl
