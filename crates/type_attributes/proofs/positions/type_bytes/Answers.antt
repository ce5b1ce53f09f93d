use Rattle.std.proofs.Common.{List, ap, sym, subst, ◌∙◌}
use Rattle.type_attributes.specs.declared.extents.ExtentRow.{ExtentRow}
use Rattle.type_attributes.specs.Scopes.{scope}
use Rattle.type_attributes.specs.Extents.{bytes_after, most_followed}
use Rattle.type_attributes.specs.Positions.{bytes_of_type}
use Rattle.type_attributes.specs.Rows.{extent_in, SayExtents, AreKnown}
use Rattle.type_attributes.proofs.Searching.{bytes_found}
use Rattle.type_attributes.proofs.positions.type_bytes.Goals as goal

pub returns-in-Some-extents : goal.returns-in-Some-extents
returns-in-Some-extents c =
    let s = scope c.args.ctx.now in
    let says : SayExtents (scope c.args.ctx.now) c.in-Some-extents.extents.rows.items =
    subst (AreKnown (scope c.args.ctx.now)) c.in-Some-extents.is c.requires in
    c.find_bytes.ensures ∙ ap (λ (rows : List ExtentRow). bytes_after (extent_in rows) most_followed
    (extent_in rows c.in-Some.at)) c.as_slice.ensures.value
    ∙ bytes_found s c.in-Some-extents.extents.rows.items c.in-Some.at says
    ∙ ap (bytes_of_type s) (sym c.in-Some.is)
