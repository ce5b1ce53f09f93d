use Rattle.std.proofs.Common.{◌∙◌, ap}
use Rattle.std.specs.Option.{unwrap_or}
use Rattle.elf_sections.proofs.Kept.{value_kept}
use Rattle.elf_sections.proofs.header.ElfFile.value.Goals as goal

pub returns : goal.returns
returns c p at =
    value_kept c.args.self.now.bytes.now c.args.at p c.first_of.result c.saturating_add-place.result
    c.width_of.result c.unwrap_or.result c.args.self.now.order c.args.field
    c.args.self.now.small c.requires c.args.self.now.order_is c.width_of.ensures c.first_of.ensures
    c.saturating_add-place.ensures
    (c.unwrap_or.ensures ∙ ap (λ o. unwrap_or o 0) c.number.ensures) at
