-- Units whose entries stand one behind the other.
use Rattle.std.specs.Prelude.{◌≡◌, ◌<◌, ◌≤◌, ◌+◌, ◌⊎◌, ℕ, List, Some, slice_get}
use Rattle.unit_graph.specs.Sources.{FileUnit}

-- the entries of a unit stand before those of another: in an earlier file, or in the same and no
-- byte of it is behind the other's first entry
pub record IsBefore (u v : FileUnit) : Type 0 where
  pub room : u.unit.first ≤ u.unit.end
  pub before : (u.file < v.file) ⊎ ((u.file ≡ v.file) × (u.unit.end ≤ v.unit.first))

-- each unit stands before the next one
abbrev pub AreApart : List FileUnit → Type 0
AreApart us = (i : ℕ) (u v : FileUnit) → slice_get us i ≡ Some u → slice_get us (i + 1) ≡ Some v
    → IsBefore u v
