use Rattle.std.proofs.Common.{◌≡◌, ℕ, length, subst, arith}
use Rattle.dwarf_abbrev.specs.ValueMaps.{ArePlaces}
use Rattle.dwarf_abbrev.proofs.slots.slots_of.Goals as goal

pub returns-clause-places : goal.returns-clause-places
returns-clause-places c =
    let is : c.loop-index.index ≡ length c.args.specs.now =
    omega (arith, c.loop-index-test.false, c.loop-index.auto.index-end) in
    subst (λ (n : ℕ). ArePlaces c.args.specs.now n c.loop-index.slots) is
    c.loop-index.invariant.places
