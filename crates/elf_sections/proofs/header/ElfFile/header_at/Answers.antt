use Rattle.std.proofs.Common.{refl}
use Rattle.elf_sections.proofs.Kept.{header_kept}
use Rattle.elf_sections.proofs.header.ElfFile.header_at.Goals as goal

pub returns : goal.returns
returns c =
    header_kept c.args.self.now.bytes.now c.args.i c.value-table.result c.value-step.result
    c.saturating_mul.result c.saturating_add.result (c.value-table.ensures 0 refl)
    (c.value-step.ensures 0 refl)
    c.saturating_mul.ensures c.saturating_add.ensures
