-- Which types of a table can be shown. A place is a type's number from 0; its id is one more.
use Rattle.std.specs.Prelude.{ℕ, ◌+◌, ◌-◌, ◌==◌, ◌&&◌, ◌||◌, not, Bool, List, [], ◌∷◌, length}
use Rattle.std.specs.Prelude.{slice_get, is_some, Option, None, Some, if◌then◌else◌}
use Rattle.std.specs.List.{filter, flat_map, range_with_len}
use Rattle.std.specs.Option.{option_and_then, option_map_or}
use Rattle.std.specs.Str.{bytes_eq}
use Rattle.btf_codec.specs.Fields.{target_at}
use Rattle.c_model.specs.declared.kinds.TheConstants.{BTF_KIND_STRUCT, BTF_KIND_UNION}
use Rattle.c_model.specs.declared.kinds.TheConstants.{BTF_KIND_TYPEDEF}
use Rattle.c_model.specs.declared.graph.CType.{CType}
use Rattle.c_model.specs.declared.graph.Ref.{Ref}
use Rattle.c_model.specs.declared.graph.Ref.TheVariants.{Void, Node}

-- STRUCT and UNION
abbrev pub is_structure : CType → Bool
is_structure t = t.label.kind == BTF_KIND_STRUCT || t.label.kind == BTF_KIND_UNION

abbrev pub is_named : CType → Bool
is_named t = not (length t.label.name == 0)

-- the place of a structure or union without a name
abbrev pub nameless_by : ℕ → CType → Option ℕ
nameless_by y t = if is_structure t && not (is_named t) then Some y else None

abbrev pub nameless_at : List CType → Ref → Option ℕ
nameless_at types Void = None
nameless_at types (Node y) = option_and_then (nameless_by y) (slice_get types y)

-- the place of the structure or union that a type in a place shows: its own where it is one with a
-- name, and that of its target where it is a typedef of one without
abbrev pub structure_by : List CType → ℕ → CType → Option ℕ
structure_by types x t =
    if is_structure t then (if is_named t then Some x else None)
    else if t.label.kind == BTF_KIND_TYPEDEF then nameless_at types (target_at t.targets 0)
    else None

abbrev pub structure_at : List CType → ℕ → Option ℕ
structure_at types x = option_and_then (structure_by types x) (slice_get types x)

-- the places of the types that can be shown, from a place on
abbrev pub is_listed : List CType → ℕ → Bool
is_listed types x = is_some (structure_at types x)

abbrev pub structures_from : List CType → ℕ → List ℕ
structures_from types from = filter (is_listed types) (range_with_len from (length types - from))

-- those of a name
abbrev pub name_at : List CType → ℕ → List ℕ
name_at types x = option_map_or (λ (t : CType). t.label.name) (slice_get types x) []

abbrev pub has_name : List CType → List ℕ → ℕ → Bool
has_name types name x = is_listed types x && bytes_eq (name_at types x) name

unfoldable pub places_named : List CType → List ℕ → List ℕ
places_named types name = filter (has_name types name) (range_with_len 0 (length types))

-- the places of what is shown: without names those of the types from a place on; else for each name
-- in order those of all its types
abbrev pub chosen : List CType → ℕ → Option (List (List ℕ)) → List ℕ
chosen types from None = structures_from types from
chosen types from (Some names) = flat_map (places_named types) names

-- the first name, counted from k, that no type has which can be shown
abbrev pub missing_from : List CType → ℕ → List (List ℕ) → Option ℕ
missing_from types k [] = None
missing_from types k (n ∷ ns) =
    if length (places_named types n) == 0 then Some k else missing_from types (k + 1) ns

abbrev pub missing : List CType → Option (List (List ℕ)) → Option ℕ
missing types None = None
missing types (Some names) = missing_from types 0 names
