-- Numbers of sections, one of each kind at most.
use Rattle.std.specs.Prelude.{ℕ, Option, Some, None}
use Rattle.elf_sections.specs.declared.fault.Kind.{Kind}
use Rattle.elf_sections.specs.declared.fault.Kind.TheVariants.{Info, Abbrev, Str, LineStr}
use Rattle.elf_sections.specs.declared.fault.Kind.TheVariants.{StrOffsets}
use Rattle.elf_sections.specs.declared.numbers.SectionNumbers.{SectionNumbers}

-- the number of a kind
abbrev pub number_at : SectionNumbers → Kind → Option ℕ
number_at f Info = f.info
number_at f Abbrev = f.abbreviations
number_at f Str = f.text
number_at f LineStr = f.line_text
number_at f StrOffsets = f.text_offsets

-- with another number for a kind
abbrev pub with_number : SectionNumbers → Kind → ℕ → SectionNumbers
with_number f Info n = record f { info = Some n }
with_number f Abbrev n = record f { abbreviations = Some n }
with_number f Str n = record f { text = Some n }
with_number f LineStr n = record f { line_text = Some n }
with_number f StrOffsets n = record f { text_offsets = Some n }

-- with the number of a section, where it is of a kind
abbrev pub with_section : SectionNumbers → Option Kind → ℕ → SectionNumbers
with_section f None n = f
with_section f (Some kind) n = with_number f kind n
