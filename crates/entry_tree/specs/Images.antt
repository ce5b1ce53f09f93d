-- The sections of a file, as entries are read from them: a section that is absent has no bytes.
use Rattle.std.specs.Prelude.{ℕ, List}
use Rattle.elf_sections.specs.Sections.{section_bytes}
use Rattle.elf_sections.specs.declared.fault.Kind.TheVariants.{Info, Str, LineStr, StrOffsets}

abbrev pub info_of : List ℕ → List ℕ
info_of file = section_bytes Info file

abbrev pub strings_of : List ℕ → List ℕ
strings_of file = section_bytes Str file

abbrev pub line_strings_of : List ℕ → List ℕ
line_strings_of file = section_bytes LineStr file

abbrev pub str_offsets_of : List ℕ → List ℕ
str_offsets_of file = section_bytes StrOffsets file
