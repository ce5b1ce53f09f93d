use Rattle.dwarf_abbrev.proofs.Refusing.{refused, fails}
use Rattle.dwarf_abbrev.proofs.law.refusals_are_first.Goals as goal

pub returns : goal.returns
returns c bytes at f = (refused bytes at f, fails bytes at f)
