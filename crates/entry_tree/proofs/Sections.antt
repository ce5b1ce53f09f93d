-- A section that is handed out or not, as a list of bytes.
use Rattle.std.proofs.Common.{◌≡◌, ℕ, ◌==◌, Bool, true, false, List, [], ◌∷◌, length, Option, None}
use Rattle.std.proofs.Common.{Some, if◌then◌else◌, refl, arith}
use Rattle.std.proofs.lemmas.Bool.{eqb-true}
use Rattle.elf_sections.specs.Sections.{section_bytes, section_of}
use Rattle.elf_sections.specs.declared.fault.Kind.{Kind}

empty_by : (bytes : List ℕ) → (length bytes == 0) ≡ true → bytes ≡ []
empty_by [] is = refl
empty_by (b ∷ bs) is = let zero : length (b ∷ bs) ≡ 0 = eqb-true (length (b ∷ bs)) 0 is in
    absurd (omega arith)

section_present : (bytes found : List ℕ) (b : Bool) → (if b then None else Some bytes) ≡ Some found
    → bytes ≡ found
section_present bytes found true e = absurd (cc)
section_present bytes found false e = cc

gone : (bytes : List ℕ) (b : Bool) → (length bytes == 0) ≡ b
    → ◌≡◌ {A = Option (List ℕ)} (if b then None else Some bytes) None → bytes ≡ []
gone bytes true is e = empty_by bytes is
gone bytes false is e = absurd (cc)

pub section_there : (kind : Kind) (file found : List ℕ) → section_of kind file ≡ Some found
    → section_bytes kind file ≡ found
unfolding section_of
section_there kind file found e =
    section_present (section_bytes kind file) found (length (section_bytes kind file) == 0) e

pub section_gone : (kind : Kind) (file : List ℕ) → section_of kind file ≡ None
    → section_bytes kind file ≡ []
unfolding section_of
section_gone kind file e =
    gone (section_bytes kind file) (length (section_bytes kind file) == 0) refl e
