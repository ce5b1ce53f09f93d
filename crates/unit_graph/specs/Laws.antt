-- What the definitions say of the nodes of all units.
use Rattle.std.specs.Prelude.{◌≡◌, List, [], Ok, All, length}
use Rattle.c_model.specs.declared.graph.CType.{CType}
use Rattle.c_model.specs.Graph.{Shape, RefersWithin}
use Rattle.c_model.specs.Kinds.{IsWellFormed}
use Rattle.c_model.specs.Forwards.{HasFittingForwards}
use Rattle.unit_graph.specs.Sources.{FileUnit, Source, gathered}
use Rattle.unit_graph.specs.Apart.{AreApart}
use Rattle.unit_graph.specs.Links.{IsGraphOf}
use Rattle.unit_graph.specs.Numbers.{Numbers, rows_from, PlacesRise}

-- of units that stand apart, no two nodes have one place
abbrev pub PlacesOfUnitsRise : Type 0
PlacesOfUnitsRise = (units : List FileUnit) (all : List Source) → gathered 0 [] units ≡ Ok all
    → AreApart units → PlacesRise all

-- a graph of units has a node for each source, and refers to none but these
abbrev pub GraphsAreWithin : Type 0
GraphsAreWithin = (units : List FileUnit) (nodes : List CType) → (g : IsGraphOf units nodes)
    → RefersWithin (length nodes) nodes × (length nodes ≡ length g.all)

-- its nodes are well formed, and its declarations fit
abbrev pub GraphsAreFormed : Type 0
GraphsAreFormed = (units : List FileUnit) (g : Shape) → IsGraphOf units g.nodes
    → All IsWellFormed g.nodes × HasFittingForwards g

-- rows that are made of nodes have their numbers
abbrev pub RowsAreNumbers : Type 0
RowsAreNumbers = (all : List Source) → Numbers (rows_from 0 all) all
