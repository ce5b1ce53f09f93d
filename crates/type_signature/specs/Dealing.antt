-- Groups of definitions dealt out to shares in turn, like cards.
use Rattle.std.specs.Prelude.{◌≡◌, ◌<◌, ◌+◌, ◌*◌, ◌/◌, ◌%◌, ℕ, zero, suc, List, [], Option, None}
use Rattle.std.specs.Prelude.{length, slice_index_or}
use Rattle.type_signature.specs.Placing.{common_of}

-- the place of x where rows of so many columns are read by columns
abbrev pub turned : ℕ → ℕ → ℕ → ℕ
turned rows columns x = (x % rows) * columns + x / rows

-- the number of the definitions of the group that is dealt to a place, where they have one
abbrev pub common_dealt : List ℕ → List (List ℕ) → ℕ → ℕ → ℕ → Option ℕ
common_dealt raw groups shares size x =
    common_of raw (slice_index_or groups (turned size shares x) [])

-- what is said of a tag number, nothing of 0, where the groups are dealt out
abbrev pub dealt_at : List (Option ℕ) → ℕ → ℕ → ℕ → Option ℕ
dealt_at cs shares size zero = None
dealt_at cs shares size (suc t) = slice_index_or cs (turned shares size t) None

-- each place has the number of its group
pub record AreDealt (raw : List ℕ) (groups : List (List ℕ)) (shares size : ℕ)
    (cs : List (Option ℕ)) : Type 0 where
  pub covers : length cs ≡ size * shares
  pub at : (x : ℕ) → x < size * shares
      → slice_index_or cs x None ≡ common_dealt raw groups shares size x
