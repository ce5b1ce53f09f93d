use Rattle.std.proofs.Common.{rules}
use Rattle.dwarf_forms.specs.Values.{within}
use Rattle.dwarf_forms.proofs.Standing.{skips}
use Rattle.dwarf_forms.proofs.reading.skip.Goals as goal

pub returns-in_err-end-clause-skips : goal.returns-in_err-end-clause-skips
returns-in_err-end-clause-skips c =
    skips (within c.args.ctx.now) c.args.spec.now c.args.at _ (search rules)
