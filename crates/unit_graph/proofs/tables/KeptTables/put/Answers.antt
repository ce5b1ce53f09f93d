use Rattle.std.proofs.Common.{◌≡◌, ◌∙◌, length, vec_len, arith, rules}
use Rattle.dw_base.proofs.Lists.{slice_get_set}
use Rattle.c_model.proofs.Taking.{slice_get-push_new}
use Rattle.unit_graph.proofs.tables.KeptTables.put.Goals as goal

pub returns-then-i-len-clause-table : goal.returns-then-i-len-clause-table
returns-then-i-len-clause-table c =
    let tables = c.place_for-i.new.self.tables in
    let n : vec_len tables ≡ length tables.items = search rules in
    slice_get_set tables.items c.place_for-i.result c.args.table
    (omega (arith, c.if-i-len.true, c.len.ensures, n))

pub returns-clause-table : goal.returns-clause-table
returns-clause-table c =
    let tables = c.place_for-i.new.self.tables in
    let n : vec_len tables ≡ length tables.items = search rules in
    rw (c.in_ok-push.ensures.items) (rw (c.len-end.ensures ∙ n)
    (slice_get-push_new tables.items c.args.table))
