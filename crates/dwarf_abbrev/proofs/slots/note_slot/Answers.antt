use Rattle.std.proofs.Common.{get_or, sym, arith}
use Rattle.std.proofs.lemmas.Option.{slice_get-get_or}
use Rattle.dwarf_abbrev.specs.declared.slots.TheConstants.{MISSING}
use Rattle.dwarf_abbrev.proofs.Mapping.{at_place, placed_new, placed_known, placed_other}
use Rattle.dwarf_abbrev.proofs.slots.note_slot.Goals as goal

pub returns-then-slots-slot : goal.returns-then-slots-slot
returns-then-slots-slot c =
    placed_new c.args.specs.now c.args.index c.in-Some.slot _ c.args.slots.now
    c.place_of_index.result c.requires.inside (sym c.in-Some.ensures.slot)
    (at_place c.args.slots.now c.in-Some.slot MISSING
    (omega (arith, c.told-slots, c.in-Some.ensures.small)) c.if-slots-slot.true)
    c.place_of_index.ensures c.requires.places

pub returns-else-slots-slot : goal.returns-else-slots-slot
returns-else-slots-slot c =
    placed_known c.args.specs.now c.args.index c.in-Some.slot _ c.args.slots.now
    (get_or c.args.slots.now c.in-Some.slot 0) c.requires.inside (sym c.in-Some.ensures.slot)
    (slice_get-get_or c.args.slots.now c.in-Some.slot 0
    (omega (arith, c.told-slots, c.in-Some.ensures.small))) c.if-slots-slot.false
    c.requires.places

pub returns-in_default : goal.returns-in_default
returns-in_default c =
    placed_other c.args.specs.now c.args.index _ c.args.slots.now c.requires.inside
    (sym c.in_default.ensures.slot) c.requires.places
