use Rattle.std.proofs.Common.{◌∙◌, refl}
use Rattle.type_attributes.specs.Scopes.{scope}
use Rattle.type_attributes.proofs.Noting.{noted_append}
use Rattle.c_types.proofs.OpenArrays.{array_comes}
use Rattle.c_types.proofs.arrays.open_array.Goals as goal

pub returns : goal.returns
returns c =
    array_comes (scope c.args.ctx.now) c.args.entry.now c.in_ok-new.field-0
    (rw c.in_ok-new.ensures.ok (record {
      at = c.at-at.ensures;
      target = c.type_target-target.ensures.value;
      lengths = refl;
      least = c.note_if.ensures
          ∙ rw (c.at-at.ensures, c.type_target-target.ensures.noted, c.is_given.ensures)
          (simp noted_append);
    }))
