-- Linking the nodes of a piece that refer elsewhere than to their own unit.
use Rattle.std.specs.Prelude.{◌≡◌, ℕ, Bool, List, [], Option, Result, IsTrue, IfSome, is_some}
use Rattle.std.specs.Result.{result_map_both}
use Rattle.c_model.specs.declared.graph.CType.{CType}
use Rattle.unit_graph.specs.declared.links.Out.{Out}
use Rattle.unit_graph.specs.declared.places.NodePlace.{NodePlace}
use Rattle.unit_graph.specs.Links.{nodes_from}
use Rattle.unit_graph.specs.Numbers.{number_in, PlacesRise}
use Rattle.unit_graph.specs.Sources.{Source}
use Rattle.unit_encoder.specs.Held.{Holds}
use Rattle.unit_encoder.specs.declared.functions.FileFunctions.{FileFunctions}
use Rattle.unit_encoder.specs.declared.links.Linked.{Linked}
use Rattle.unit_encoder.specs.declared.piece.Piece.{Piece}
use Rattle.unit_encoder.specs.declared.piece.Unlinked.{Unlinked}

-- what linking the rest of a piece answers: the nodes that it holds, linked, or the first reference
-- that names no node
abbrev pub IsRest : Piece → Result (List CType) Out → Type 0
IsRest p r = (local : Bool) (nodes : ℕ → List Source) → Holds local nodes nodes p
    → (IsTrue local → PlacesRise (nodes 0)) → r ≡ nodes_from (nodes 0) [] (nodes 0)

-- these are the nodes of a piece and those that it keeps unlinked, and an entry has the number that
-- the piece's rows give it
pub record ArePartsOf (p : Piece) (nodes : List CType) (unlinked : List Unlinked)
    (places : List NodePlace) : Type 0 where
  pub nodes_are : nodes ≡ p.nodes
  pub unlinked_are : unlinked ≡ p.unlinked.items
  pub numbers_are : (q : ℕ × ℕ) → number_in q places ≡ number_in q p.rows

-- the nodes among what is linked
abbrev pub nodes_among : Result Linked Out → Result (List CType) Out
nodes_among r = result_map_both (λ (l : Linked). l.nodes) (λ (o : Out). o) r

-- the functions that a piece holds, and the numbers that its rows give, exactly where they are
-- asked for
pub record AreFunctionsIn (asked : Bool) (p : Piece) (f : Option FileFunctions) : Type 0 where
  pub there : is_some f ≡ asked
  pub funcs : IfSome f (λ (g : FileFunctions). g.funcs ≡ p.funcs)
  pub numbers : IfSome f (λ (g : FileFunctions). (q : ℕ × ℕ)
      → number_in q g.places ≡ number_in q p.rows)
