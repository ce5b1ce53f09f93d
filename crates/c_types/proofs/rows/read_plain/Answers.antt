use Rattle.std.proofs.Common.{◌∙◌, sym, ap}
use Rattle.dwarf_forms.specs.Meanings.{sections}
use Rattle.type_attributes.specs.Scopes.{scope}
use Rattle.c_types.specs.Types.{has_plain_row, plain_row_of}
use Rattle.c_types.proofs.Steps.{unmade, plain_starts}
use Rattle.c_types.proofs.Unplain.{no_plain_row}
use Rattle.c_types.proofs.rows.read_plain.Goals as goal

pub returns-in-Some : goal.returns-in-Some
returns-in-Some c =
    let row = plain_row_of (sections c.args.ctx.now.form) c.args.entry.now in
    plain_starts (scope c.args.ctx.now) c.args.entry.now.depth row c.in-Some.one _
    (sym c.in_ok-one.ensures.made ∙ c.in-Some.is) c.in_ok-one.ensures.noted

pub returns-in-None : goal.returns-in-None
returns-in-None c = λ es. unmade (plain_row_of (sections c.args.ctx.now.form) c.args.entry.now)
    (sym c.in_ok-one.ensures.made ∙ c.in-None.is)

pub returns-then-not-is_plain : goal.returns-then-not-is_plain
returns-then-not-is_plain c = λ es.
    no_plain_row (sections c.args.ctx.now.form) c.args.entry.now
    (ap has_plain_row (sym c.tag.ensures) ∙ sym c.is_plain.ensures ∙ c.if-not-is_plain.true)
