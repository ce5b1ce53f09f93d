use Rattle.std.proofs.Common.{ap, ◌∙◌}
use Rattle.dwarf_forms.specs.Meanings.{sections}
use Rattle.entry_tree.specs.Items.{Coming}
use Rattle.type_attributes.specs.Scopes.{scope}
use Rattle.type_attributes.specs.Rows.{rows_of}
use Rattle.type_attributes.proofs.Searching.{known}
use Rattle.type_attributes.proofs.positions.prepare.Goals as goal

pub returns-clause-known : goal.returns-clause-known
returns-clause-known c =
    known (scope c.args.ctx.now) c.in_ok-extents.extents.rows.items (c.in_ok-extents.ensures
    ∙ ap (λ (w : Coming). rows_of (sections c.args.ctx.now.form) w.entries) c.copy.ensures)
    c.requires.rising

pub returns-clause-ready : goal.returns-clause-ready
returns-clause-ready c = λ needs. returns-clause-known c
