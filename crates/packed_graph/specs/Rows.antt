-- Rows of a packed list of nodes, and what is done with them.
use Rattle.std.specs.Prelude.{◌≡◌, ◌≤◌, ◌+◌, ℕ, List, [], ◌∷◌, ◌++◌, map, take, drop, length}
use Rattle.std.specs.Prelude.{slice_index, vec_len, vec_capacity}
use Rattle.c_model.specs.declared.label.Label.{Label}
use Rattle.c_model.specs.declared.graph.Ref.{Ref}
use Rattle.packed_graph.specs.declared.rows.Rows.{Rows}
use Rattle.packed_graph.specs.Packed.{Columns, word_of, moved_word}

-- rows beside the labels that they number
abbrev pub columns_of : List Label → Rows → Columns
columns_of labels rows = record {
  labels = labels;
  numbers = rows.numbers.items;
  ends = rows.ends.items;
  words = rows.words.items;
}

-- no rows
pub record AreNone (rows : Rows) : Type 0 where
  pub numbers : rows.numbers.items ≡ []
  pub ends : rows.ends.items ≡ 0 ∷ []
  pub words : rows.words.items ≡ []

-- the same rows
pub record AreSame (old new : Rows) : Type 0 where
  pub numbers : new.numbers.items ≡ old.numbers.items
  pub ends : new.ends.items ≡ old.ends.items
  pub words : new.words.items ≡ old.words.items

-- memory for one more row, of so many words
pub record HasRoom (count : ℕ) (rows : Rows) : Type 0 where
  pub numbers : vec_len rows.numbers + 1 ≤ vec_capacity rows.numbers
  pub ends : vec_len rows.ends + 1 ≤ vec_capacity rows.ends
  pub words : vec_len rows.words + count ≤ vec_capacity rows.words

-- one more row
pub record HasRow (old : Rows) (number end : ℕ) (targets : List Ref) (new : Rows) : Type 0 where
  pub numbers : new.numbers.items ≡ old.numbers.items ++ number ∷ []
  pub ends : new.ends.items ≡ old.ends.items ++ end ∷ []
  pub words : new.words.items ≡ old.words.items ++ map word_of targets

-- the rows of another list behind those of old, with the numbers of its labels at these places
pub record HasRowsOf (old other : Rows) (places : List ℕ) (new : Rows) : Type 0 where
  pub numbers : new.numbers.items
      ≡ old.numbers.items ++ map (slice_index places) other.numbers.items
  pub ends : new.ends.items ≡ old.ends.items
      ++ map (λ e. e + length old.words.items) (drop 1 other.ends.items)
  pub words : new.words.items ≡ old.words.items
      ++ map (moved_word (length old.numbers.items)) other.words.items

-- the first rows alone
pub record AreFirst (count : ℕ) (old new : Rows) : Type 0 where
  pub numbers : new.numbers.items ≡ take count old.numbers.items
  pub ends : new.ends.items ≡ take (count + 1) old.ends.items
  pub words : new.words.items ≡ take (slice_index old.ends.items count) old.words.items
