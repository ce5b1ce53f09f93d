use Rattle.std.proofs.Common.{◌≡◌, ◌++◌, [], Bool, true, false, List, Option, Some, sym, ap, ◌∙◌}
use Rattle.std.proofs.Common.{refl}
use Rattle.std.specs.Prelude.{ℕ, codes}
use Rattle.std.specs.Str.{bytes_eq}
use Rattle.dwarf_forms.specs.Meanings.{sections}
use Rattle.type_attributes.specs.declared.fault.TypeFault.{TypeFault}
use Rattle.type_attributes.specs.declared.fault.TypeFault.TheVariants.{MissingName}
use Rattle.type_attributes.specs.Faults.{noted, refuse_if}
use Rattle.type_attributes.specs.Attributes.{name_attr, name_in_full}
use Rattle.type_attributes.specs.Labels.{is_empty}
use Rattle.c_types.specs.Pointers.{is_type_tag, tag_attr}
use Rattle.type_attributes.proofs.Noting.{noted_append}
use Rattle.c_types.proofs.OpenPointers.{tag_by}
use Rattle.c_types.proofs.pointers.read_tag.Goals as goal

pub returns-then-not-is_of_type_tags-clause-tag : goal.returns-then-not-is_of_type_tags-clause-tag
returns-then-not-is_of_type_tags-clause-tag c =
    let untagged : is_type_tag (sections c.args.ctx.now) c.args.entry.now ≡ false =
    tag_by (sections c.args.ctx.now) c.args.entry.now false c.requires
    (c.if-not-is_of_type_tags.ensures
    ∙ ap (λ (n : List ℕ). bytes_eq n (codes "btf_type_tag")) c.name-name.ensures.value) in
    rw untagged refl

pub returns-then-not-is_of_type_tags-clause-noted :
    goal.returns-then-not-is_of_type_tags-clause-noted
returns-then-not-is_of_type_tags-clause-noted c =
    let untagged : is_type_tag (sections c.args.ctx.now) c.args.entry.now ≡ false =
    tag_by (sections c.args.ctx.now) c.args.entry.now false c.requires
    (c.if-not-is_of_type_tags.ensures
    ∙ ap (λ (n : List ℕ). bytes_eq n (codes "btf_type_tag")) c.name-name.ensures.value) in
    rw untagged (c.name-name.ensures.noted ∙ sym (noted_append c.args.least.now
    (name_attr (sections c.args.ctx.now) c.args.entry.now).refused []))

pub returns-clause-tag : goal.returns-clause-tag
returns-clause-tag c =
    let tagged : is_type_tag (sections c.args.ctx.now) c.args.entry.now ≡ true =
    tag_by (sections c.args.ctx.now) c.args.entry.now true c.requires
    (c.if-not-is_of_type_tags.ensures
    ∙ ap (λ (n : List ℕ). bytes_eq n (codes "btf_type_tag")) c.name-name.ensures.value) in
    rw tagged (ap (λ (n : List ℕ). Some n) c.text-tag.ensures.value)

pub returns-clause-noted : goal.returns-clause-noted
returns-clause-noted c =
    let tagged : is_type_tag (sections c.args.ctx.now) c.args.entry.now ≡ true =
    tag_by (sections c.args.ctx.now) c.args.entry.now true c.requires
    (c.if-not-is_of_type_tags.ensures
    ∙ ap (λ (n : List ℕ). bytes_eq n (codes "btf_type_tag")) c.name-name.ensures.value) in
    let s = sections c.args.ctx.now in
    let e = c.args.entry.now in
    let named = (name_attr s e).refused in
    let valued = (tag_attr s e).refused in
    let empty =
    refuse_if (is_empty (name_in_full (tag_attr s e))) (MissingName c.args.entry.now.at) in
    rw tagged
    (c.note_if.ensures
    ∙ ap (λ (at : ℕ). noted c.text-tag.new.least (refuse_if c.is_unnamed.result (MissingName at)))
    c.at.ensures
    ∙ ap
    (λ (b : Bool). noted c.text-tag.new.least (refuse_if b (MissingName c.args.entry.now.at)))
    (c.is_unnamed.ensures ∙ ap (λ (n : List ℕ). is_empty n) c.text-tag.ensures.value)
    ∙ ap (λ (o : Option TypeFault). noted o empty) (c.text-tag.ensures.noted
    ∙ ap (λ (o : Option TypeFault). noted o valued) c.name-name.ensures.noted)
    ∙ sym (noted_append (noted c.args.least.now named) valued empty)
    ∙ sym (noted_append c.args.least.now named (valued ++ empty)))
