use Rattle.std.proofs.Common.{◌≡◌, ◌==◌, false, subst}
use Rattle.std.proofs.lemmas.Bool.{ne_eqb}
use Rattle.dwarf_abbrev.specs.declared.constants.TheConstants.{DW_TAG_pointer_type}
use Rattle.type_attributes.specs.Scopes.{scope}
use Rattle.c_types.specs.declared.rows.RowStart.{RowStart}
use Rattle.c_types.specs.Rows.{StartsOne}
use Rattle.c_types.specs.Types.{row_of}
use Rattle.c_types.proofs.Steps.{none_taken, row_taken}
use Rattle.c_types.proofs.walking.Reading.take_row.Goals as goal

pub returns-in-None-clause-taken : goal.returns-in-None-clause-taken
returns-in-None-clause-taken c =
    let other : (c.args.entry.now.tag == DW_TAG_pointer_type) ≡ false =
    ne_eqb c.args.entry.now.tag DW_TAG_pointer_type
    (rw c.tag.ensures at c.if-tag-eq-DW_TAG_pointer_type.false) in
    rw (← c.self.view_is) (none_taken (scope c.args.ctx.now) c.args.entry.now _ other
    (rw c.in-None.is at c.in_ok-read_row.ensures) (rw (← c.self.view_is) at c.requires))

pub returns-in_ok-push-in-Some-Whole-clause-taken :
    goal.returns-in_ok-push-in-Some-Whole-clause-taken
returns-in_ok-push-in-Some-Whole-clause-taken c =
    let other : (c.args.entry.now.tag == DW_TAG_pointer_type) ≡ false =
    ne_eqb c.args.entry.now.tag DW_TAG_pointer_type
    (rw c.tag.ensures at c.if-tag-eq-DW_TAG_pointer_type.false) in
    rw (← c.self.view_is) (row_taken (scope c.args.ctx.now) c.args.entry.now c.in-Some-Whole.source
    c.in-Some-Whole.fault _ c.push.new.self other
    (subst (λ (start : RowStart). StartsOne (scope c.args.ctx.now) c.args.entry.now.depth
    (row_of (scope c.args.ctx.now) c.args.entry.now) start) c.in-Some-Whole.field-0-is
    (rw c.in-Some-Whole.is at c.in_ok-read_row.ensures)) (rw (← c.self.view_is) at c.requires)
    c.in_ok-push-in-Some-Whole.ensures)
