use Rattle.std.proofs.Common.{◌≡◌, Ok}
use Rattle.dwarf_abbrev.specs.Rows.{shown}
use Rattle.dwarf_forms.specs.Values.{within}
use Rattle.entry_tree.specs.Items.{item_at, shown_item}
use Rattle.entry_tree.proofs.Ahead.{entry_after, values_read}
use Rattle.entry_tree.proofs.walk.first_entry.Goals as goal

pub invariant_of-result : goal.invariant_of-result
invariant_of-result c =
    let h : Ok (shown_item c.in_ok-abbrev.field-0) ≡ item_at (within c.args.form.now)
    c.args.abbrevs.now c.args.first c.args.first 0 = c.in_ok-abbrev.ensures in
    let p = entry_after (within c.args.form.now) c.args.abbrevs.now c.args.first c.args.first 0
    (shown c.in-Found.abbrev) c.in-Found.from c.in-Found.field-2 (rw c.in-Found.is at h) in
    values_read (within c.args.form.now) c.in-Found.abbrev.specs.now c.in-Found.from
    c.in-Found.field-2 p.2
