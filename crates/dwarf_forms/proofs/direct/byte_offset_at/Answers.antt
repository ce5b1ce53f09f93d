use Rattle.std.proofs.Common.{rules, ℕ, List, None, Some, sym, ap, ◌∙◌}
use Rattle.dw_base.specs.Numbers.{number_of}
use Rattle.dwarf_forms.specs.declared.layout.NumberClass.TheVariants.{Unsigned}
use Rattle.dwarf_forms.specs.Values.{within}
use Rattle.dwarf_forms.specs.Meanings.{offset_in}
use Rattle.dwarf_forms.proofs.OneNumber.{meant_row}
use Rattle.dwarf_forms.proofs.direct.byte_offset_at.Goals as goal

pub returns-in-Some-number-clause-value : goal.returns-in-Some-number-clause-value
returns-in-Some-number-clause-value c =
    let form = c.args.form.now in
    rw (meant_row (offset_in c.args.spec.now.attribute) (within form)
    c.args.spec.now c.args.at c.in-Some.width Unsigned (Some c.in-Some-number.n)
    (c.in-Some.ensures.row form.offset_bytes form.address_bytes)
    (ap (λ (u : List ℕ). number_of u c.args.at c.in-Some.width form.order)
    (sym c.unit_of.ensures) ∙ sym c.in-Some-number.ensures)) (search rules)

pub returns-in-None-clause-value : goal.returns-in-None-clause-value
returns-in-None-clause-value c =
    let form = c.args.form.now in
    sym (meant_row (offset_in c.args.spec.now.attribute) (within form)
    c.args.spec.now c.args.at c.in-Some.width Unsigned None
    (c.in-Some.ensures.row form.offset_bytes form.address_bytes)
    (ap (λ (u : List ℕ). number_of u c.args.at c.in-Some.width form.order)
    (sym c.unit_of.ensures) ∙ sym c.in-None.ensures))
