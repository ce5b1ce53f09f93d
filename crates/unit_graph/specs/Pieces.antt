-- What reading some units one after the other gives, before their nodes are put behind one another:
-- the types of each, or the fault of the first that is refused.
use Rattle.std.specs.Prelude.{ℕ, ◌+◌, List, [], ◌∷◌, ◌++◌, length, Result, Ok, Err}
use Rattle.type_attributes.specs.declared.source.UnitTypes.{UnitTypes}
use Rattle.type_attributes.specs.declared.fault.TypeFault.{TypeFault}
use Rattle.c_types.specs.Types.{types_of_unit_of}
use Rattle.unit_graph.specs.Sources.{FileUnit, Source, UnitRefusal, sources_of}

-- a unit that is read: its file, and its types
pub record Read : Type 0 where
  pub file : ℕ
  pub found : UnitTypes

-- values behind others, unless there is a fault
abbrev pub behind : List Read → Result (List Read) UnitRefusal → Result (List Read) UnitRefusal
behind rs (Err e) = Err e
behind rs (Ok more) = Ok (rs ++ more)

-- a unit before the units behind it
abbrev pub read_before : ℕ → ℕ → Result UnitTypes TypeFault → Result (List Read) UnitRefusal
    → Result (List Read) UnitRefusal
read_before file unit (Err f) rest = Err (record { file = file; unit = unit; fault = f })
read_before file unit (Ok t) rest = behind (record { file = file; found = t } ∷ []) rest

-- the units have the numbers from one on
unfoldable pub reads : ℕ → List FileUnit → Result (List Read) UnitRefusal
reads unit [] = Ok []
reads unit (u ∷ us) =
    read_before u.file unit (types_of_unit_of u.bytes u.unit) (reads (unit + 1) us)

-- two pieces
abbrev pub both : Result (List Read) UnitRefusal → Result (List Read) UnitRefusal
    → Result (List Read) UnitRefusal
both (Err e) r = Err e
both (Ok rs) r = behind rs r

-- the nodes of units behind those of the units before
unfoldable pub glued : List Source → List Read → List Source
glued seen [] = seen
glued seen (r ∷ rs) = glued (seen ++ sources_of r.file (length seen) r.found) rs

abbrev pub glue : List Source → Result (List Read) UnitRefusal → Result (List Source) UnitRefusal
glue seen (Err e) = Err e
glue seen (Ok rs) = Ok (glued seen rs)

-- the nodes of units that are read, the first of which has a number
unfoldable pub sources_from : ℕ → List Read → List Source
sources_from n [] = []
sources_from n (r ∷ rs) =
    sources_of r.file n r.found ++ sources_from (n + length (sources_of r.file n r.found)) rs
