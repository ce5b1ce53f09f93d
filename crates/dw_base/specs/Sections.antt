-- What a section of texts is to a contract: its bytes.
use Rattle.std.specs.Prelude.{ℕ, List}
use Rattle.dw_base.specs.declared.text_section.TextSection.{TextSection}

abbrev pub bytes_of : TextSection → List ℕ
bytes_of section = section.bytes.now
