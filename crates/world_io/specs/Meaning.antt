-- What a world is to a contract.
use Rattle.std.specs.Prelude.{ℕ, List, [], ◌∷◌, Option, None, Some, if◌then◌else◌}
use Rattle.std.specs.Str.{bytes_eq}
use Rattle.world_io.specs.declared.files.HeldFile.{HeldFile}

-- The files, the bytes printed and complained, the files stored and the number of loads, prints and
-- stores so far, each `None` where the world does not tell it; and how many calls of each of the
-- four kinds failed.
pub record Meaning : Type 0 where
  pub files : Option (List HeldFile)
  pub printed : Option (List ℕ)
  pub complained : Option (List ℕ)
  pub stored : Option (List HeldFile)
  pub calls : Option ℕ
  pub loads : ℕ
  pub prints : ℕ
  pub complaints : ℕ
  pub stores : ℕ

-- the bytes of the first file of a name
abbrev pub file_of : List ℕ → List HeldFile → Option (List ℕ)
file_of name [] = None
file_of name (f ∷ fs) = if bytes_eq f.name name then Some f.bytes else file_of name fs
