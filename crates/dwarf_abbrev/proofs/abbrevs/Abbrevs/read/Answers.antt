use Rattle.dwarf_abbrev.proofs.Refusing.{reads}
use Rattle.dwarf_abbrev.proofs.abbrevs.Abbrevs.read.Goals as goal

pub returns-clause-reads : goal.returns-clause-reads
returns-clause-reads c = reads c.args.bytes.now c.args.at c.read_table.result c.read_table.ensures
