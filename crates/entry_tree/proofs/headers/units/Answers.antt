use Rattle.entry_tree.specs.Units.{Reads}
use Rattle.entry_tree.specs.Images.{info_of}
use Rattle.elf_sections.specs.Images.{file_of}
use Rattle.elf_sections.specs.Header.{order_of}
use Rattle.entry_tree.proofs.Following.{reads, units_each}
use Rattle.entry_tree.proofs.headers.units.Goals as goal

read : (c : goal.After-read_units) → Reads (info_of (file_of c.args.image.now))
    (order_of (file_of c.args.image.now)) c.read_units.result
read c = reads (info_of (file_of c.args.image.now)) (order_of (file_of c.args.image.now))
    c.read_units.result (rw (← c.bytes_of.ensures, ← c.order.ensures) c.read_units.ensures)

pub returns-clause-reads : goal.returns-clause-reads
returns-clause-reads c = read c

pub returns-clause-each : goal.returns-clause-each
returns-clause-each c = units_each (info_of (file_of c.args.image.now))
    (order_of (file_of c.args.image.now)) c.read_units.result (read c)
