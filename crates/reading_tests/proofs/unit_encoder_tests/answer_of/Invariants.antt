use Rattle.std.specs.Prelude.{All}
use Rattle.unit_graph.specs.Sources.{IsReadable}
use Rattle.reading_tests.proofs.unit_encoder_tests.answer_of.Given as goal

abbrev pub invariant-loop-file : goal.invariant-loop-file
invariant-loop-file g l = All IsReadable l.all.items
