-- The number of a kind, where another one was put in place of it.
use Rattle.std.proofs.Common.{◌≡◌, ℕ, Some, refl, if◌then◌else◌}
use Rattle.elf_sections.specs.declared.fault.Kind.{Kind}
use Rattle.elf_sections.specs.declared.fault.Kind.TheVariants.{Info, Abbrev, Str, LineStr}
use Rattle.elf_sections.specs.declared.fault.Kind.TheVariants.{StrOffsets}
use Rattle.elf_sections.specs.declared.numbers.SectionNumbers.{SectionNumbers}
use Rattle.elf_sections.specs.Numbers.{number_at, with_number}
use Rattle.elf_sections.specs.Sections.{is_of}

pub with_one : (f : SectionNumbers) (kind other : Kind) (n : ℕ)
    → number_at (with_number f other n) kind
    ≡ (if is_of kind (Some other) then Some n else number_at f kind)
with_one f Info Info n = refl
with_one f Info Abbrev n = refl
with_one f Info Str n = refl
with_one f Info LineStr n = refl
with_one f Info StrOffsets n = refl
with_one f Abbrev Info n = refl
with_one f Abbrev Abbrev n = refl
with_one f Abbrev Str n = refl
with_one f Abbrev LineStr n = refl
with_one f Abbrev StrOffsets n = refl
with_one f Str Info n = refl
with_one f Str Abbrev n = refl
with_one f Str Str n = refl
with_one f Str LineStr n = refl
with_one f Str StrOffsets n = refl
with_one f LineStr Info n = refl
with_one f LineStr Abbrev n = refl
with_one f LineStr Str n = refl
with_one f LineStr LineStr n = refl
with_one f LineStr StrOffsets n = refl
with_one f StrOffsets Info n = refl
with_one f StrOffsets Abbrev n = refl
with_one f StrOffsets Str n = refl
with_one f StrOffsets LineStr n = refl
with_one f StrOffsets StrOffsets n = refl
