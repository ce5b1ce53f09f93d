-- Where the texts of a section end: the first NUL from a place on, and what blocks of 64 bytes say.
use Rattle.std.specs.Prelude.{◌≡◌, ℕ, ◌+◌, ◌*◌, ◌≤◌, ◌<◌, ◌≢◌, ◌↔◌, ◌-◌, ◌/◌, List, length}
use Rattle.std.specs.Prelude.{get_or, Some}
use Rattle.std.specs.Int.{bit_at}
use Rattle.dw_base.specs.Names.{digest_of}
use Rattle.dw_base.specs.Texts.{text_of}
use Rattle.dw_base.specs.declared.text_ends.Block.{Block}

-- the first NUL at or behind a place stands here; where there is none, here is the end
pub record IsFirstNul (bytes : List ℕ) (from here : ℕ) : Type 0 where
  pub inside : here ≤ length bytes
  pub none_before : (k : ℕ) → from ≤ k → k < here → get_or bytes k 0 ≢ 0
  pub there : here < length bytes → (from ≤ here) × (get_or bytes here 0 ≡ 0)

-- each of the 64 bits of a word says whether the byte so far behind a place is NUL
abbrev pub HasNulBits : List ℕ → ℕ → ℕ → Type 0
HasNulBits bytes from word = (k : ℕ) → k < 64 → bit_at word k ≡ 1 ↔ get_or bytes (from + k) 0 ≡ 0

-- what is kept of 64 bytes, by their number
pub record IsBlockOf (bytes : List ℕ) (number : ℕ) (b : Block) : Type 0 where
  pub whole : 64 * number + 64 ≤ length bytes
  pub nul : HasNulBits bytes (64 * number) b.nul
  pub behind : IsFirstNul bytes (64 * number + 64) b.behind

abbrev pub AreBlocksOf : List ℕ → List Block → Type 0
AreBlocksOf bytes blocks =
    (number : ℕ) (d : Block) → number < length blocks → IsBlockOf bytes number (get_or blocks number d)

-- the digest of the text that begins at a place, where one does
abbrev pub IsRestAt : List ℕ → ℕ → ℕ → Type 0
IsRestAt bytes at rest = (t : List ℕ) → text_of bytes at ≡ Some t → rest ≡ digest_of t

-- those of the texts at each 4,096 bytes, from the last ones on
abbrev pub AreRestsOf : List ℕ → List ℕ → Type 0
AreRestsOf bytes rests = (j : ℕ) → j < length rests
    → IsRestAt bytes (4096 * (length bytes / 4096 - j)) (get_or rests j 0)
