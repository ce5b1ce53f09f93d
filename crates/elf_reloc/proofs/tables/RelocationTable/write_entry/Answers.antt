use Rattle.std.proofs.Common.{arith}
use Rattle.elf_reloc.proofs.Usable.{usable_at}
use Rattle.elf_reloc.proofs.tables.RelocationTable.write_entry.Goals as goal

pub value-value-requires-clause-below : goal.value-value-requires-clause-below
value-value-requires-clause-below c =
    let w = usable_at c.args.bytes.now c.args.self.now c.args.i c.entry-entry.result
    c.entry-entry.ensures c.requires.usable.passes c.if-entry-eq0.false in w.symbol

pub overflow_add-self : goal.overflow_add-self
overflow_add-self c =
    let w = usable_at c.args.bytes.now c.args.self.now c.args.i c.entry-entry.result
    c.entry-entry.ensures c.requires.usable.passes c.if-entry-eq0.false in
    omega (arith, w.inside)

pub write-requires-clause-few : goal.write-requires-clause-few
write-requires-clause-few c =
    let w = usable_at c.args.bytes.now c.args.self.now c.args.i c.entry-entry.result
    c.entry-entry.ensures c.requires.usable.passes c.if-entry-eq0.false in w.few

pub write-requires-clause-room : goal.write-requires-clause-room
write-requires-clause-room c =
    let w = usable_at c.args.bytes.now c.args.self.now c.args.i c.entry-entry.result
    c.entry-entry.ensures c.requires.usable.passes c.if-entry-eq0.false in
    omega (arith, w.inside)

pub write-requires-clause-fits : goal.write-requires-clause-fits
write-requires-clause-fits c =
    let w = usable_at c.args.bytes.now c.args.self.now c.args.i c.entry-entry.result
    c.entry-entry.ensures c.requires.usable.passes c.if-entry-eq0.false in
    rw c.value-value.ensures w.fits
