use Rattle.dwarf_abbrev.proofs.Spelled.{read, spelled}
use Rattle.dwarf_abbrev.proofs.law.tables_are_read.Goals as goal

pub returns : goal.returns
returns c bytes at declarations = (read bytes at declarations, spelled bytes at declarations)
