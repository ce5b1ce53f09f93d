use Rattle.std.proofs.Common.{◌∙◌, sym}
use Rattle.c_types.proofs.OpenPointers.{made_closed}
use Rattle.c_types.proofs.pointers.complete_pointer.Goals as goal

pub returns-clause-source : goal.returns-clause-source
returns-clause-source c = λ s. c.pointer_type.ensures ∙ sym (made_closed s c.args.whole)
