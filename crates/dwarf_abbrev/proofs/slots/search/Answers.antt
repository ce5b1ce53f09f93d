use Rattle.dwarf_abbrev.proofs.Mapping.{one_more_without}
use Rattle.dwarf_abbrev.proofs.slots.search.Goals as goal

pub loop-index-preserved : goal.loop-index-preserved
loop-index-preserved c =
    one_more_without c.args.specs.now c.loop-index.index c.args.name _ c.loop-index-test.true
    c.loop-index.invariant c.if-specs-index.false
