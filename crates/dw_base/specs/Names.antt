-- What is hashed of a name: all of a short one, and of a long one its length and a number that all
-- its bytes decide.
use Rattle.std.specs.Prelude.{ℕ, ◌≡◌, ◌+◌, ◌*◌, ◌%◌, ◌^◌, ◌<◌, List, [], ◌∷◌, ◌++◌, length}
use Rattle.std.specs.Prelude.{nat_lt, if◌then◌else◌}
use Rattle.std.specs.Hash as fed

-- names of more bytes than these are long
abbrev pub short : ℕ
short = 4096

-- the digest of bytes before others, by the digest of these: from the last byte on, so that texts
-- with one end share their work
unfoldable pub digest_before : ℕ → List ℕ → ℕ
digest_before rest [] = rest
digest_before rest (b ∷ bs) = (digest_before rest bs * 1099511628211 % 2 ^ 64 + b) % 2 ^ 64

abbrev pub digest_of : List ℕ → ℕ
digest_of name = digest_before 0 name

-- a long name's digest
abbrev pub IsDigested : List ℕ → ℕ → Type 0
IsDigested name digest = short < length name → digest ≡ digest_of name

abbrev pub hash_name : List ℕ → fed.HashWrites
hash_name name = if nat_lt short (length name)
    then fed.u64 (digest_of name) ++ fed.usize (length name) else name ∷ []
