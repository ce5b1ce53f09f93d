use Rattle.dwarf_forms.proofs.Refused.{refused, refusing}
use Rattle.dwarf_forms.proofs.law.refusals_are_first.Goals as goal

pub returns : goal.returns
returns c within offsets addresses spec at f =
    (refused within spec at f, refusing within spec at f offsets addresses)
