use Rattle.std.proofs.Common.{ap, sym, ◌∙◌}
use Rattle.std.specs.Option.{option_copied}
use Rattle.entry_tree.proofs.Sections.{section_there, section_gone}
use Rattle.elf_sections.specs.declared.fault.Kind.TheVariants.{Abbrev as AbbrevSection}
use Rattle.elf_sections.specs.Images.{file_of}
use Rattle.c_types.proofs.unit.abbreviation_bytes.Goals as goal

pub returns-in-Some : goal.returns-in-Some
returns-in-Some c = sym (section_there AbbrevSection (file_of c.args.image.now) c.in-Some.bytes.now
    (sym c.section.ensures ∙ ap option_copied c.in-Some.is))

pub returns-in-None : goal.returns-in-None
returns-in-None c = sym (section_gone AbbrevSection (file_of c.args.image.now)
    (sym c.section.ensures ∙ ap option_copied c.in-None.is))
