-- References of a graph as words, side by side, and hashes that are computed from them.
use Rattle.std.specs.Prelude.{◌≡◌, ◌<◌, ◌≤◌, ◌+◌, ℕ, List, All, map, length, slice_index}
use Rattle.std.specs.Prelude.{slice_range, Option, None, Some, if◌then◌else◌}
use Rattle.std.specs.List.{fold}
use Rattle.c_model.specs.declared.graph.CType.{CType}
use Rattle.c_model.specs.Partition.{classes_of, targets_at}
use Rattle.packed_graph.specs.Packed.{word_of, ref_of}
use Rattle.type_signature.specs.Hashing.{mixed}
use Rattle.type_signature.specs.Signatures.{is_open_at}

-- the words of node x: they stand from the end of the node before to its own
abbrev pub words_at : List ℕ → List ℕ → ℕ → List ℕ
words_at ends words x = slice_range words (slice_index ends x) (slice_index ends (x + 1))

-- ends and words of so many nodes, which refer to no others
pub record AreWords (count : ℕ) (ends words : List ℕ) : Type 0 where
  pub covers : length ends ≡ count + 1
  pub rises : (x : ℕ) → x < count → slice_index ends x ≤ slice_index ends (x + 1)
  pub within : (x : ℕ) → x < count → slice_index ends (x + 1) ≤ length words
  pub below : All (λ w. w ≤ count) words

-- ends and words of the references of nodes
pub record AreLinks (nodes : List CType) (ends words : List ℕ) : Type 0 where
  pub fits : AreWords (length nodes) ends words
  pub at : (x : ℕ) → x < length nodes → words_at ends words x ≡ map word_of (targets_at nodes x)

-- the classes of a node's targets by its words; None of an open forward
abbrev pub targets_by : List (List ℕ) → List ℕ → List ℕ → List ℕ → ℕ → Option (List (Option ℕ))
targets_by index ends words p x = if is_open_at index x then None
    else Some (classes_of p (map ref_of (words_at ends words x)))

-- a node's hash by its words: its own number, and mixed into it those of its targets unless it is
-- an open forward
abbrev pub hash_at : List (List ℕ) → List ℕ → List ℕ → List ℕ → ℕ → ℕ
hash_at index ends words p x = if is_open_at index x then slice_index p x
    else fold mixed (slice_index p x) (classes_of p (map ref_of (words_at ends words x)))

-- each node has its hash
pub record IsHashedBy (index : List (List ℕ)) (ends words p v : List ℕ) : Type 0 where
  pub covers : length v ≡ length index
  pub at : (x : ℕ) → x < length index → slice_index v x ≡ hash_at index ends words p x
