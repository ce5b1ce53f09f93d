use Rattle.std.proofs.Common.{arith}
use Rattle.elf_sections.specs.Header.{order_of}
use Rattle.elf_sections.specs.Images.{file_of}
use Rattle.entry_tree.specs.Images.{info_of}
use Rattle.entry_tree.proofs.Extents.{unit_within}
use Rattle.entry_tree.proofs.contexts.context.Goals as goal

pub invariant_of-result-clause-inside : goal.invariant_of-result-clause-inside
invariant_of-result-clause-inside c =
    let w = unit_within (info_of (file_of c.args.image.now))
    (order_of (file_of c.args.image.now)) c.args.unit.now.at c.args.unit.now c.requires in
    rw c.bytes_of.ensures w.inside

pub invariant_of-result-clause-offsets : goal.invariant_of-result-clause-offsets
invariant_of-result-clause-offsets c = (unit_within (info_of (file_of c.args.image.now))
    (order_of (file_of c.args.image.now)) c.args.unit.now.at c.args.unit.now c.requires).offsets

pub invariant_of-result-clause-addresses : goal.invariant_of-result-clause-addresses
invariant_of-result-clause-addresses c = (unit_within (info_of (file_of c.args.image.now))
    (order_of (file_of c.args.image.now)) c.args.unit.now.at c.args.unit.now c.requires).addresses

pub returns-clause-begins : goal.returns-clause-begins
returns-clause-begins c =
    let w = unit_within (info_of (file_of c.args.image.now))
    (order_of (file_of c.args.image.now)) c.args.unit.now.at c.args.unit.now c.requires in
    omega (arith, w.begins)
