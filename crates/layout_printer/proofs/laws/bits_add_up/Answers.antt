use Rattle.layout_printer.proofs.Adding.{added}
use Rattle.layout_printer.proofs.laws.bits_add_up.Goals as goal

pub returns : goal.returns
returns c = added
