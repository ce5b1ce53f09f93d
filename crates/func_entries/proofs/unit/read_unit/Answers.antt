use Rattle.std.proofs.Common.{sym, subst}
use Rattle.dwarf_forms.specs.Values.{within}
use Rattle.entry_tree.specs.Items.{Coming}
use Rattle.c_types.specs.Parents.{Descends}
use Rattle.c_types.proofs.Parenthood.{coming_descends}
use Rattle.func_entries.proofs.unit.read_unit.Goals as goal

pub read_entries-requires-clause-descending : goal.read_entries-requires-clause-descending
read_entries-requires-clause-descending c =
    subst (λ (w : Coming). Descends 0 w.entries) (sym c.new.ensures.all)
    (coming_descends (within c.context-form.result) c.args.abbrevs.now
    c.args.unit.now.first c.args.unit.now.first 0)
