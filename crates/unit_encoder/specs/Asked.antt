-- Functions where they are asked for.
use Rattle.std.specs.Prelude.{◌≡◌, Bool, List, [], IsTrue, Option, is_some, Result, Ok, Err, ⊤}
use Rattle.std.specs.Prelude.{IfSome}
use Rattle.unit_graph.specs.Sources.{FileUnit, Source, gathered}
use Rattle.unit_graph.specs.Numbers.{Numbers}
use Rattle.unit_encoder.specs.declared.fault.EncodeFault.{EncodeFault}
use Rattle.unit_encoder.specs.declared.functions.FileFunc.{FileFunc}
use Rattle.unit_encoder.specs.declared.functions.FileFunctions.{FileFunctions}
use Rattle.unit_encoder.specs.declared.functions.UnitFault.{UnitFault}
use Rattle.unit_encoder.specs.declared.piece.Piece.{Piece}
use Rattle.unit_encoder.specs.Functions.{functions_from}

-- where functions are asked for, a worker holds these
abbrev pub GivesFuncs : Bool → Result Piece EncodeFault → Result (List FileFunc) UnitFault → Type 0
GivesFuncs asked (Ok p) r = IsTrue asked → p.funcs ≡ r
GivesFuncs asked (Err e) r = ⊤

-- the functions of units, and the numbers of the nodes of their types
pub record AreFunctionsOf (units : List FileUnit) (f : FileFunctions) : Type 0 where
  pub funcs : f.funcs ≡ functions_from 0 units
  pub places : (all : List Source) → gathered 0 [] units ≡ Ok all → Numbers f.places all

-- functions are there exactly where they are asked for
pub record HasFunctions (asked : Bool) (units : List FileUnit) (f : Option FileFunctions) : Type 0
  where
    pub there : is_some f ≡ asked
    pub are : IfSome f (AreFunctionsOf units)
