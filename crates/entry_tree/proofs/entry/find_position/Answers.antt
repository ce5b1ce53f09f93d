use Rattle.std.proofs.Common.{refl, sym}
use Rattle.dwarf_forms.specs.Values.{within}
use Rattle.entry_tree.proofs.Attributes.{has_none, first_at, none_refused}
use Rattle.entry_tree.proofs.entry.find_position.Goals as goal

pub returns-in_err-index : goal.returns-in_err-index
returns-in_err-index c =
    rw c.from_residual.ensures (has_none (within c.args.form.now) c.args.abbreviation.now.specs.now
    c.args.from c.args.name c.requires (c.in_err-index.ensures.none refl))

pub returns-in-Some : goal.returns-in-Some
returns-in-Some c =
    first_at (within c.args.form.now) c.args.abbreviation.now.specs.now c.in_ok-index.index
    c.args.from c.in-Some.at c.args.name _ c.requires c.in_ok-index.ensures.first
    c.in-Some.ensures

pub returns-in-Ok : goal.returns-in-Ok
returns-in-Ok c =
    first_at (within c.args.form.now) c.args.abbreviation.now.specs.now c.in_ok-index.index
    c.args.from c.in-Ok.at c.args.name _ c.requires c.in_ok-index.ensures.first
    (sym c.in-Ok.ensures)

pub returns-in-Err : goal.returns-in-Err
returns-in-Err c =
    none_refused (within c.args.form.now) c.args.abbreviation.now.specs.now
    c.in_ok-index.index c.args.from c.in-Err.field-0 c.requires (sym c.in-Err.ensures)
