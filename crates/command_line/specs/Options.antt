-- The table of the options.
use Rattle.std.specs.Prelude.{ℕ, List, [], ◌∷◌, Bool, true, codes, ◌==◌, is_some}
use Rattle.command_line.specs.declared.options.Setting.{Setting}
use Rattle.command_line.specs.declared.options.Setting.TheVariants.{Out, Base, Selfmade, Names}
use Rattle.command_line.specs.declared.options.Setting.TheVariants.{Holes, Line, Format, Sizes}
use Rattle.command_line.specs.declared.options.Setting.TheVariants.{Jobs, Funcs}
use Rattle.command_line.specs.declared.options.ValuePlace.{ValuePlace}
use Rattle.command_line.specs.declared.options.ValuePlace.TheVariants.{Nowhere, NextWord, SameWord}
use Rattle.command_line.specs.Values.{made_number, holes, line, jobs, file_name, names, format}

-- an option: its number, how it is spelled, where its value stands, and which values are good
pub record Row : Type 0 where
  pub rank : ℕ
  pub spelling : List ℕ
  pub place : ValuePlace
  pub good : List ℕ → Bool

abbrev pub option : ℕ → List ℕ → ValuePlace → (List ℕ → Bool) → Row
option rank spelling place good =
    record { rank = rank; spelling = spelling; place = place; good = good }

abbrev pub row : Setting → Row
row Out = option 0 (codes "--btf_encode_detached=") SameWord (λ v. is_some (file_name v))
row Base = option 1 (codes "--btf_base=") SameWord (λ v. is_some (file_name v))
row Selfmade = option 2 (codes "--selfmade=") SameWord (λ v. is_some (made_number v))
row Names = option 3 (codes "-C") NextWord (λ v. is_some (names v))
row Holes = option 4 (codes "-H") NextWord (λ v. is_some (holes v))
row Line = option 5 (codes "-c") NextWord (λ v. is_some (line v))
row Format = option 6 (codes "-F") NextWord (λ v. is_some (format v))
row Sizes = option 7 (codes "-s") Nowhere (λ v. true)
row Jobs = option 8 (codes "-j") SameWord (λ v. is_some (jobs v))
row Funcs = option 9 (codes "--funcs") Nowhere (λ v. true)

abbrev pub settings : List Setting
settings = Out ∷ Base ∷ Selfmade ∷ Names ∷ Holes ∷ Line ∷ Format ∷ Sizes ∷ Jobs ∷ Funcs ∷ []

abbrev pub is_same : Setting → Setting → Bool
is_same s t = (row s).rank == (row t).rank

-- the options that only jobs that show have
abbrev pub showing : List Setting
showing = Names ∷ Sizes ∷ Holes ∷ Line ∷ Format ∷ []
