use Rattle.std.proofs.Common.{pos, sym, ◌∙◌}
use Rattle.dwarf_forms.specs.Values.{within}
use Rattle.entry_tree.proofs.Attributes.{has_is, tells_by_first}
use Rattle.entry_tree.proofs.entry.Entry.has.Goals as goal

pub returns : goal.returns
returns c =
    let e = c.self.inside in
    rw (← c.self.view_is) (
    c.is_some.ensures
    ∙ tells_by_first e.abbrev.specs.now c.args.name
    (record { attribute = 0; form = 0; implicit = pos 0 }) c.first_of.result
    c.first_of.ensures.first c.first_of.ensures.none
    ∙ sym (has_is (within e.form.now) e.abbrev.specs.now e.from c.args.name
    c.self.invariant))
