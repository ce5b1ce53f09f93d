-- The function entries of units that follow one another.
use Rattle.std.specs.Prelude.{ℕ, ◌-◌, ◌+◌, List, [], ◌∷◌, ◌++◌, map, take, drop, Option, None, Some}
use Rattle.std.specs.Prelude.{Result, Ok, Err}
use Rattle.type_attributes.specs.declared.fault.TypeFault.{TypeFault}
use Rattle.func_entries.specs.declared.entries.FuncEntry.{FuncEntry}
use Rattle.func_entries.specs.Units.{functions_of_unit_of}
use Rattle.unit_graph.specs.Sources.{FileUnit}
use Rattle.unit_encoder.specs.declared.functions.FileFunc.{FileFunc}
use Rattle.unit_encoder.specs.declared.functions.UnitFault.{UnitFault}

-- entries, unless a unit is refused
abbrev pub funcs_or : Option UnitFault → List FileFunc → Result (List FileFunc) UnitFault
funcs_or None fs = Ok fs
funcs_or (Some f) fs = Err f

-- the function entries of a unit of a file
abbrev pub of_file : ℕ → List FuncEntry → List FileFunc
of_file file fs =
    map (λ (f : FuncEntry). let e : FileFunc = record { file = file; func = f } in e) fs

-- those of the unit of this number, or its refusal
abbrev pub unit_funcs : ℕ → ℕ → Result (List FuncEntry) TypeFault
    → Result (List FileFunc) UnitFault
unit_funcs file unit (Ok fs) = Ok (of_file file fs)
unit_funcs file unit (Err f) = Err (record { file = file; unit = unit; fault = f })

-- entries behind others, unless a unit is refused
abbrev pub behind_funcs : List FileFunc → Result (List FileFunc) UnitFault
    → Result (List FileFunc) UnitFault
behind_funcs fs (Ok more) = Ok (fs ++ more)
behind_funcs fs (Err f) = Err f

abbrev pub both_funcs : Result (List FileFunc) UnitFault → Result (List FileFunc) UnitFault
    → Result (List FileFunc) UnitFault
both_funcs (Ok fs) r = behind_funcs fs r
both_funcs (Err f) r = Err f

-- the function entries of units, which have the numbers from one on, or the refusal of the first
-- unit that one of its functions refuses
unfoldable pub functions_from : ℕ → List FileUnit → Result (List FileFunc) UnitFault
functions_from unit [] = Ok []
functions_from unit (u ∷ us) =
    both_funcs (unit_funcs u.file unit (functions_of_unit_of u.bytes u.unit))
    (functions_from (unit + 1) us)

-- those of the units from one number up to another
abbrev pub functions_between : List FileUnit → ℕ → ℕ → Result (List FileFunc) UnitFault
functions_between units start end = functions_from start (take (end - start) (drop start units))
