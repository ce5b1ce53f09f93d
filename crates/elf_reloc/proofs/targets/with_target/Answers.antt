use Rattle.std.proofs.Common.{◌≡◌, ap, sym, false, ◌∙◌}
use Rattle.elf_sections.specs.declared.header.Header.{Header}
use Rattle.elf_reloc.specs.Tables.{target_of, target_met}
use Rattle.elf_reloc.proofs.Clear.{with_clear, target_clear}
use Rattle.elf_reloc.proofs.targets.with_target.Goals as goal

pub returns-in-Some-clause-clear : goal.returns-in-Some-clause-clear
returns-in-Some-clause-clear c =
    let file = c.args.file.now.bytes.now in
    let target : c.from-target.result ≡ target_of file c.args.i =
    c.from-target.ensures ∙ ap (λ (h : Header). h.info) c.fields.ensures in
    let clear : target_met file c.from-target.result ≡ false =
    ap (target_met file) target ∙ target_clear file c.args.i
    (sym c.is_relocation.ensures ∙ c.if-not-is_relocation.false) c.requires.passed in
    rw c.with.ensures
    (with_clear file c.args.clear c.in-Some.kind c.from-target.result c.requires.clear clear)
