use Rattle.std.proofs.Common.{None, Some, arith}
use Rattle.btf_codec.proofs.Counting.{length_by}
use Rattle.btf_codec.proofs.writer.words_of.Goals as goal

pub words_by-requires : goal.words_by-requires
words_by-requires c =
    omega (arith, length_by c.args.t.now (Some c.in-Some.layout) c.in-Some.ensures)

pub overflow_add-result : goal.overflow_add-result
overflow_add-result c =
    omega (arith, length_by c.args.t.now (Some c.in-Some.layout) c.in-Some.ensures)

pub returns-in-None : goal.returns-in-None
returns-in-None c = omega (arith, length_by c.args.t.now None c.in-None.ensures)

pub returns-in-Some : goal.returns-in-Some
returns-in-Some c = omega (arith, length_by c.args.t.now (Some c.in-Some.layout) c.in-Some.ensures)
