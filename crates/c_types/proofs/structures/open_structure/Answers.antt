use Rattle.std.proofs.Common.{◌∙◌, ℤ, Option, refl, ap}
use Rattle.type_attributes.specs.Scopes.{scope}
use Rattle.type_attributes.specs.Labels.{size_in}
use Rattle.c_types.proofs.OpenStructures.{structure_comes}
use Rattle.c_types.proofs.structures.open_structure.Goals as goal

pub returns : goal.returns
returns c =
    structure_comes (scope c.args.ctx.now) c.args.is_union c.args.entry.now
    c.args.declared c.note_size.new.least c.in_ok-new.field-0 c.requires.defined c.requires.declared
    (c.note_size.ensures ∙ rw (
      c.at-at.ensures,
      c.constant-size.ensures.value,
      c.constant-size.ensures.noted,
      c.name-name.ensures.noted,
    ) refl)
    (rw c.in_ok-new.ensures.ok (record {
      members = c.members.ensures;
      targets = c.targets.ensures;
      fields = refl;
      at = c.at-at.ensures;
      is_union = refl;
      name = c.name-name.ensures.value;
      size = c.size_or_zero.ensures
          ∙ ap (λ (o : Option ℤ). size_in o) c.constant-size.ensures.value;
      plain = refl;
      packed = refl;
    }))
