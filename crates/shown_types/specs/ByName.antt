-- The working form of finding types by name: for each name its first type, and for each type the
-- next one of its name.
use Rattle.std.specs.Prelude.{◌≡◌, ℕ, ◌+◌, ◌-◌, ◌≤◌, IsTrue, List, Option, Some, length, find}
use Rattle.std.specs.Prelude.{slice_get}
use Rattle.std.specs.List.{range_with_len}
use Rattle.std.specs.Map.{lookup}
use Rattle.std.specs.Str.{bytes_eq}
use Rattle.c_model.specs.declared.graph.CType.{CType}
use Rattle.shown_types.specs.Listed.{has_name, is_listed, name_at}

-- the place of a name among names with places
abbrev pub place_of : List ℕ → List (List ℕ × ℕ) → Option ℕ
place_of name entries = lookup (λ (k : List ℕ). bytes_eq name k) entries

-- the place of the first type from one on that can be shown and has a name
abbrev pub first_from : List CType → List ℕ → ℕ → Option ℕ
first_from types name x = find (has_name types name) (range_with_len x (length types - x))

-- the first place of each name from a place on; and behind each place of a type that can be shown
-- the next one of its name
pub record AreNamed (types : List CType) (from : ℕ) (first : List (List ℕ × ℕ))
    (next : List (Option ℕ)) : Type 0 where
  pub covers : length next ≡ length types
  pub heads : (name : List ℕ) → place_of name first ≡ first_from types name from
  pub follows : (x : ℕ) → from ≤ x → IsTrue (is_listed types x)
      → slice_get next x ≡ Some (first_from types (name_at types x) (x + 1))
