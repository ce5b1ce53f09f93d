use Rattle.dwarf_abbrev.specs.Sizes.{width_in}
use Rattle.dwarf_abbrev.proofs.Sizing.{with_one}
use Rattle.dwarf_abbrev.proofs.runs.with_form.Goals as goal

pub returns-clause-total : goal.returns-clause-total
returns-clause-total c = with_one c.args.run c.args.form (λ o a. width_in o a c.in_ok-width.width)
    c.with_width.result c.in_ok-width.ensures.bytes c.with_width.ensures.total
