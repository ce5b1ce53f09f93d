use Rattle.reading_tests.proofs.Encoded.{encoded}
use Rattle.reading_tests.proofs.prototype_tests.types_of.Goals as goal

pub returns-in-Ok : goal.returns-in-Ok
returns-in-Ok g c = encoded 4294967295 c.args.units.now c.in-Ok.graph.nodes c.in-Ok.ensures.nodes
