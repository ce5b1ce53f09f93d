-- The places of nodes as rows, and the number of the node at a place.
use Rattle.std.specs.Prelude.{ℕ, ◌≡◌, ◌+◌, ◌<◌, ◌≤◌, ◌⊎◌, ◌==◌, ◌&&◌, ◌||◌, nat_lt, nat_le, Bool}
use Rattle.std.specs.Prelude.{List, [], ◌∷◌, ◌++◌, length, slice_get, slice_index_or, Option, None}
use Rattle.std.specs.Prelude.{Some}
use Rattle.unit_graph.specs.declared.places.NodePlace.{NodePlace}
use Rattle.unit_graph.specs.Links.{or_here, number_from}
use Rattle.unit_graph.specs.Sources.{Source}

abbrev pub row_is_at : ℕ × ℕ → NodePlace → Bool
row_is_at p r = r.file == p.0 && r.at == p.1

abbrev pub row_is_up_to : ℕ × ℕ → NodePlace → Bool
row_is_up_to p r = nat_lt r.file p.0 || (r.file == p.0 && nat_le r.at p.1)

-- the number of the last row at a place
abbrev pub number_in : ℕ × ℕ → List NodePlace → Option ℕ
number_in p [] = None
number_in p (r ∷ rs) = or_here r.number (row_is_at p r) (number_in p rs)

-- rows have just the numbers of these nodes
abbrev pub Numbers : List NodePlace → List Source → Type 0
Numbers rows all = (p : ℕ × ℕ) → number_in p rows ≡ number_from p 0 all

-- the place of a row isn't after that of another
pub record IsNotAfter (x y : NodePlace) : Type 0 where
  pub file : x.file ≤ y.file
  pub at : x.file ≡ y.file → x.at ≤ y.at

abbrev pub IsInOrder : List NodePlace → Type 0
IsInOrder rows = (i j : ℕ) (d : NodePlace) → i ≤ j → j < length rows
    → IsNotAfter (slice_index_or rows i d) (slice_index_or rows j d)

-- the place of a node as rows
abbrev pub rows_at : ℕ → ℕ → Option ℕ → List NodePlace
rows_at k file None = []
rows_at k file (Some at) = record { file = file; number = k; at = at } ∷ []

-- the places of nodes that are numbered from one on
unfoldable pub rows_from : ℕ → List Source → List NodePlace
rows_from k [] = []
rows_from k (s ∷ ss) = rows_at k s.file s.at ++ rows_from (k + 1) ss

-- the places of nodes rise: no two begin at one
abbrev pub PlacesRise : List Source → Type 0
PlacesRise all =
    (i j : ℕ) (s t : Source) (a b : ℕ) → i < j → slice_get all i ≡ Some s → slice_get all j ≡ Some t
    → s.at ≡ Some a → t.at ≡ Some b → (s.file < t.file) ⊎ ((s.file ≡ t.file) × (a < b))

-- the place of a node that comes so many later
abbrev pub row_moved : ℕ → NodePlace → NodePlace
row_moved c r = record { file = r.file; number = r.number + c; at = r.at }
