-- What the two commands say of one another: one stores the table of ELF files, and the other shows
-- what a BTF file spells.
use Rattle.std.specs.Prelude.{ℕ, ◌≡◌, ◌↔◌, ◌<◌, false, List, [], ◌∷◌, None, slice_index}
use Rattle.dw_base.specs.declared.places.Limits.{Limits}
use Rattle.command_line.specs.declared.job.Format.TheVariants.{Dwarf, Btf}
use Rattle.pahole_run.specs.Files.{Inputs, width_by}
use Rattle.pahole_run.specs.Refusals.{first, file_checks, source_checks, HasMerged}
use Rattle.pahole_run.specs.Steps.{IsOutput, SpelledBy}
use Rattle.pahole_run.specs.Tables.{Merged}
use Rattle.pahole_run.specs.Tasks.{Display}
use Rattle.pahole_run.specs.Tasks.Output.{Stored, Shown}

-- what is read of a BTF file of these bytes, over the base of what was read before
abbrev pub as_btf : Inputs → List ℕ → Inputs
as_btf inputs bytes = record { files = bytes ∷ []; base = inputs.base; funcs = false }

-- what is read comes to these nodes and types, is accepted, and these bytes of it are stored
pub record Stores (limits : Limits) (inputs : Inputs) (merged : Merged)
    (bytes : List ℕ) : Type 0 where
  pub out : List ℕ
  pub has : HasMerged Dwarf limits inputs merged
  pub accepted : first (file_checks Dwarf (Stored out) limits inputs merged) ≡ None
  pub output : IsOutput Dwarf (Stored out) inputs merged bytes
  pub spelled : SpelledBy (Stored out) inputs merged.types
  pub narrow : (i : ℕ) → slice_index bytes i < 256

-- the stored bytes, read as a BTF file over the same base, are accepted, and spell the same types
pub record AreReadAgain (limits : Limits) (inputs : Inputs) (merged : Merged)
    (bytes : List ℕ) : Type 0 where
  pub accepted : first (source_checks Btf limits (as_btf inputs bytes) []) ≡ None
  pub has : HasMerged Btf limits (as_btf inputs bytes)
      (record { nodes = []; types = merged.types })
  pub same : (read : Merged) → HasMerged Btf limits (as_btf inputs bytes) read
      → read.types ≡ merged.types

abbrev pub StoredIsReadAgain : Type 0
StoredIsReadAgain =
    (limits : Limits) (inputs : Inputs) (merged : Merged) (bytes : List ℕ)
    → Stores limits inputs merged bytes → AreReadAgain limits inputs merged bytes

-- what is shown of ELF files, and of the bytes that were stored of them: a text of one is one of
-- the other, and the first refusal is the same
pub record AreShownAlike (limits : Limits) (inputs : Inputs) (merged read : Merged)
    (bytes : List ℕ) (d : Display) : Type 0 where
  pub text : (text : List ℕ) → IsOutput Dwarf (Shown d) inputs merged text
      ↔ IsOutput Btf (Shown d) (as_btf inputs bytes) read text
  pub refusal : first (file_checks Dwarf (Shown d) limits inputs merged)
      ≡ first (file_checks Btf (Shown d) limits (as_btf inputs bytes) read)

-- so is it where pointers have the same width
abbrev pub StoredIsShownAlike : Type 0
StoredIsShownAlike =
    (limits : Limits) (inputs : Inputs) (merged read : Merged) (bytes : List ℕ) (d : Display)
    → Stores limits inputs merged bytes → HasMerged Btf limits (as_btf inputs bytes) read
    → width_by Dwarf inputs.files merged.types ≡ width_by Btf (bytes ∷ []) read.types
    → AreShownAlike limits inputs merged read bytes d
