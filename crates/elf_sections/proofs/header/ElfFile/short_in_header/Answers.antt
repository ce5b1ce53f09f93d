use Rattle.std.proofs.Common.{◌<◌, ◌^◌, arith}
use Rattle.elf_sections.specs.Sections.{in_header}
use Rattle.elf_sections.proofs.Fits.{short_fits}
use Rattle.elf_sections.proofs.header.ElfFile.short_in_header.Goals as goal

pub in_header-requires : goal.in_header-requires
in_header-requires c =
    record { low64 = omega arith; high64 = omega arith; low32 = omega arith; high32 = omega arith }

pub overflow_cast-result : goal.overflow_cast-result
overflow_cast-result c =
    let few : in_header c.args.self.now.bytes.now c.args.i c.args.field < 2 ^ 32 = short_fits
    c.args.self.now.bytes.now c.args.i c.args.field c.args.self.now.are_bytes c.requires in
    omega arith
