use Rattle.std.proofs.Common.{◌≡◌, ◌∙◌, ℤ, Option, refl, ap}
use Rattle.type_attributes.specs.Scopes.{scope}
use Rattle.type_attributes.specs.Labels.{size_in}
use Rattle.type_attributes.specs.Attributes.{constant_attr}
use Rattle.c_types.proofs.OpenEnumerations.{enumeration_comes}
use Rattle.c_types.proofs.enumerations.open_enumeration.Goals as goal
use Rattle.dwarf_abbrev.specs.declared.constants.TheConstants.{DW_AT_byte_size}

pub returns : goal.returns
returns c =
    let size : c.size_or_zero-size.result
    ≡ size_in (constant_attr DW_AT_byte_size c.args.entry.now).value =
    c.size_or_zero-size.ensures ∙ ap (λ (o : Option ℤ). size_in o) c.constant-size.ensures.value in
    enumeration_comes (scope c.args.ctx.now) c.args.entry.now c.in_ok-new.field-0
    (rw c.in_ok-new.ensures.ok (record {
      at = c.at-at.ensures;
      name = c.name-name.ensures.value;
      size = size;
      wide = rw size refl;
      has_some = refl;
      has_negative = refl;
      parts = c.parts.ensures;
      bare = c.name-name.ensures.noted ∙ rw c.requires.declared refl;
      unsigned = c.note_enum_size.ensures
          ∙ rw (c.at-at.ensures, c.constant-size.ensures.value, c.constant-size.ensures.noted) refl;
      signed = c.note_enum_size.ensures
          ∙ rw (c.at-at.ensures, c.constant-size.ensures.value, c.constant-size.ensures.noted) refl;
    }))
    c.requires.defined
