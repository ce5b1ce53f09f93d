use Rattle.elf_sections.specs.Images.{file_of}
use Rattle.entry_tree.specs.Contexts.{within_of}
use Rattle.entry_tree.proofs.Rooting.{root_is}
use Rattle.entry_tree.proofs.roots.root.Goals as goal

pub returns-clause-tree : goal.returns-clause-tree
returns-clause-tree c =
    rw c.read_root.ensures (root_is (within_of (file_of c.args.image.now) c.args.unit.now)
    c.args.abbrevs.now c.args.unit.now.first)
