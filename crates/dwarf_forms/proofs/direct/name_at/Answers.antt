use Rattle.std.proofs.Common.{ℕ, List, None, Some, sym, ap, ◌∙◌}
use Rattle.dw_base.specs.Numbers.{number_of}
use Rattle.dwarf_forms.specs.Values.{within}
use Rattle.dwarf_forms.specs.Meanings.{sections, name_in}
use Rattle.dwarf_forms.proofs.OneNumber.{meant_strp}
use Rattle.dwarf_forms.proofs.direct.name_at.Goals as goal

pub returns-in-Some : goal.returns-in-Some
returns-in-Some c =
    let form = c.args.form.now in
    c.string.ensures ∙ sym (meant_strp (name_in (sections c.args.ctx.now) c.args.spec.now.attribute)
    (within form) c.args.spec.now c.args.at (Some c.in-Some.offset) c.if-spec-ne-DW_FORM_strp.false
    (ap (λ (u : List ℕ). number_of u c.args.at form.offset_bytes form.order)
    (sym c.unit_of.ensures) ∙ sym c.in-Some.ensures))

pub returns-in-None : goal.returns-in-None
returns-in-None c =
    let form = c.args.form.now in
    sym (meant_strp (name_in (sections c.args.ctx.now) c.args.spec.now.attribute)
    (within form) c.args.spec.now c.args.at None c.if-spec-ne-DW_FORM_strp.false
    (ap (λ (u : List ℕ). number_of u c.args.at form.offset_bytes form.order)
    (sym c.unit_of.ensures) ∙ sym c.in-None.ensures))
