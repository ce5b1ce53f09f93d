use Rattle.std.proofs.Common.{sym, refl, arith}
use Rattle.dwarf_abbrev.specs.declared.slots.TheConstants.{MISSING}
use Rattle.dwarf_abbrev.proofs.Mapping.{at_place, missing_all}
use Rattle.dwarf_abbrev.proofs.row.Abbrev.first_of.Goals as goal

pub returns-then-place-lt-FAR-clause-first : goal.returns-then-place-lt-FAR-clause-first
returns-then-place-lt-FAR-clause-first c =
    let mapped = c.args.self.now.mapped in
    let says = mapped.places c.args.name c.in-Some.slot _ (sym c.in-Some.ensures.slot)
    (at_place c.args.self.now.slots.now c.in-Some.slot _
    (omega (arith, mapped.count, c.in-Some.ensures.small)) refl) in
    says.at c.if-place-lt-FAR.true

pub returns-then-place-clause-none : goal.returns-then-place-clause-none
returns-then-place-clause-none c = λ _.
    let mapped = c.args.self.now.mapped in
    missing_all c.args.self.now.specs.now c.args.name c.in-Some.slot c.args.self.now.slots.now
    (sym c.in-Some.ensures.slot)
    (at_place c.args.self.now.slots.now c.in-Some.slot MISSING
    (omega (arith, mapped.count, c.in-Some.ensures.small)) c.if-place.true) mapped.places
