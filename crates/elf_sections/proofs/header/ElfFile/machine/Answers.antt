use Rattle.std.proofs.Common.{◌≡◌, ◌<◌, refl, arith}
use Rattle.elf_sections.specs.Header.{value_of, e_machine}
use Rattle.elf_sections.proofs.Fits.{machine_fits}
use Rattle.elf_sections.proofs.header.ElfFile.machine.Goals as goal

pub overflow_cast-result : goal.overflow_cast-result
overflow_cast-result c =
    let is : c.value.result ≡ value_of c.args.self.now.bytes.now 0 e_machine =
    c.value.ensures 0 refl in
    let few : value_of c.args.self.now.bytes.now 0 e_machine < 65536 =
    machine_fits c.args.self.now.bytes.now c.args.self.now.are_bytes in
    omega arith
