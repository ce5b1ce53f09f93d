use Rattle.std.proofs.Common.{◌≡◌, ◌<◌, refl, arith}
use Rattle.elf_sections.specs.Header.{value_of, e_type}
use Rattle.elf_sections.proofs.Fits.{type_fits}
use Rattle.elf_sections.proofs.header.ElfFile.e_type.Goals as goal

pub overflow_cast-result : goal.overflow_cast-result
overflow_cast-result c =
    let is : c.value.result ≡ value_of c.args.self.now.bytes.now 0 e_type =
    c.value.ensures 0 refl in
    let few : value_of c.args.self.now.bytes.now 0 e_type < 65536 =
    type_fits c.args.self.now.bytes.now c.args.self.now.are_bytes in
    omega arith
