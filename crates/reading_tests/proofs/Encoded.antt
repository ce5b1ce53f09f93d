-- The graph that the encoder of types gives is the graph of its units.
use Rattle.std.proofs.Common.{◌≡◌, ℕ, nat_lt, Bool, true, false, List, [], length, Result, Ok, Err}
use Rattle.std.proofs.Common.{if◌then◌else◌, refl, ap}
use Rattle.c_model.specs.declared.graph.CType.{CType}
use Rattle.unit_encoder.specs.Faults.{unit_faults}
use Rattle.unit_encoder.specs.Graph.{graph_of, linked, told_out}
use Rattle.unit_encoder.specs.declared.fault.EncodeFault.{EncodeFault}
use Rattle.unit_encoder.specs.declared.fault.EncodeFault.TheVariants.{NodesTooMany}
use Rattle.unit_graph.specs.Links.{IsGraphOf, nodes_from}
use Rattle.unit_graph.specs.Sources.{FileUnit, Source, UnitRefusal, gathered}
use Rattle.unit_graph.specs.declared.links.Out.{Out}

same_nodes : (a b : List CType) → ◌≡◌ {A = Result (List CType) EncodeFault} (Ok a) (Ok b) → a ≡ b
same_nodes a b e = cc

nodes_linked : (units : List FileUnit) (nodes : List CType) (count : ℕ) (many : Bool)
    (x : Result (List CType) Out)
    → (if many then Err (NodesTooMany count) else told_out units x) ≡ Ok nodes → x ≡ Ok nodes
nodes_linked units nodes count true x e = cc
nodes_linked units nodes count false (Err o) e = cc
nodes_linked units nodes count false (Ok ns) e =
    ap (λ (all : List CType). Ok all) (same_nodes ns nodes e)

pub encoded : (most : ℕ) (units : List FileUnit) (nodes : List CType)
    → graph_of most units ≡ Ok nodes → IsGraphOf units nodes
encoded most units nodes e = by (gathered 0 [] units) refl e
  where
    by : (r : Result (List Source) UnitRefusal) → gathered 0 [] units ≡ r
        → linked most units (unit_faults r) ≡ Ok nodes → IsGraphOf units nodes
    by (Err f) is h = cc
    by (Ok all) is h = record {
      all = all;
      gathers = is;
      links = nodes_linked units nodes
          (length all) (nat_lt most (length all)) (nodes_from all [] all) h;
    }
