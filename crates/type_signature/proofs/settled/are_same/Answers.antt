use Rattle.std.proofs.Common.{◌∙◌, sym, arith}
use Rattle.type_signature.proofs.Reading.{classes-read}
use Rattle.type_signature.proofs.settled.are_same.Goals as goal

pub loop-i-preserved : goal.loop-i-preserved
loop-i-preserved c = classes-read c.args.now.now c.args.some.now c.args.others.now c.loop-i.i
    (omega arith) (omega arith) c.loop-i.invariant
    (sym c.code_of.ensures ∙ (c.if-code_of.false ∙ c.code_of-in-loop-i.ensures))
