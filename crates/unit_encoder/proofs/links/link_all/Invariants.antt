use Rattle.std.proofs.Common.{ℕ, Bool, List, IsTrue}
use Rattle.unit_graph.specs.Sources.{Source}
use Rattle.unit_graph.specs.Numbers.{PlacesRise}
use Rattle.unit_encoder.specs.Held.{Holds}
use Rattle.unit_encoder.specs.Rest.{ArePartsOf}
use Rattle.unit_encoder.specs.declared.piece.Piece.{Piece}
use Rattle.unit_encoder.proofs.Resting.{IsResting}
use Rattle.unit_encoder.proofs.links.link_all.Given as goal

abbrev pub invariant-loop-x : goal.invariant-loop-x
invariant-loop-x l = (p : Piece) → ArePartsOf p l.nodes l.unlinked l.places → (local : Bool)
    (nodes : ℕ → List Source) → Holds local nodes nodes p → (IsTrue local → PlacesRise (nodes 0))
    → IsResting (nodes 0) p.unlinked.items l.x l.next l.linked
