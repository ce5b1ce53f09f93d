-- The sections that are known to be apart from what is read while relocations are written: the last
-- one of each kind.
use Rattle.std.specs.Prelude.{◌≡◌, ℕ, ◌==◌, Bool, false, List, Option, Some, None, if◌then◌else◌}
use Rattle.elf_sections.specs.declared.fault.Kind.{Kind}
use Rattle.elf_sections.specs.Numbers.{number_at, with_section}
use Rattle.elf_sections.specs.Sections.{kind_at}
use Rattle.elf_reloc.specs.Tables.{is_relocation, target_of, target_met}
use Rattle.elf_sections.specs.declared.numbers.SectionNumbers.{SectionNumbers}

-- what is known behind a section: the one that it is for in place of the last one of that kind, and
-- all else as before
unfoldable pub known_after : List ℕ → SectionNumbers → ℕ → SectionNumbers
known_after file t i = if is_relocation file i
    then with_section t (kind_at file (target_of file i)) (target_of file i) else t

abbrev pub is_number : Option ℕ → ℕ → Bool
is_number None n = false
is_number (Some known) n = known == n

abbrev pub is_known : SectionNumbers → Kind → ℕ → Bool
is_known t kind n = is_number (number_at t kind) n

-- the section of a number, where there is one, shares no byte with what is read
pub record IsClear (file : List ℕ) (number : Option ℕ) : Type 0 where
  pub clear : (n : ℕ) → number ≡ Some n → target_met file n ≡ false

pub record AreClear (file : List ℕ) (t : SectionNumbers) : Type 0 where
  pub each : (kind : Kind) → IsClear file (number_at t kind)
