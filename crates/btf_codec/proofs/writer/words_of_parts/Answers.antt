use Rattle.std.proofs.Common.{List, [], arith}
use Rattle.c_model.specs.declared.graph.Ref.{Ref}
use Rattle.btf_codec.proofs.Counting.{length_parts}
use Rattle.btf_codec.proofs.writer.words_of_parts.Goals as goal

pub overflow_mul-result : goal.overflow_mul-result
overflow_mul-result c = omega (
  arith,
  length_parts c.args.layout c.words_of_part.result c.words_of_part.ensures c.args.parts.now [],
)

pub overflow_cast-result-2 : goal.overflow_cast-result-2
overflow_cast-result-2 c = omega (
  arith,
  length_parts c.args.layout c.words_of_part.result c.words_of_part.ensures c.args.parts.now [],
)

pub returns : goal.returns
returns c = λ (rs : List Ref). omega (
  arith,
  length_parts c.args.layout c.words_of_part.result c.words_of_part.ensures c.args.parts.now rs,
)
