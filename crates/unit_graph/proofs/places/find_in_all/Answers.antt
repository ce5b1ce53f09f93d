use Rattle.std.proofs.Common.{ℕ, rules}
use Rattle.std.proofs.lemmas.List.Sorted.{IsPartitionPoint-from_clause}
use Rattle.unit_graph.specs.Numbers.{row_is_up_to}
use Rattle.unit_graph.proofs.Rows.{parted}
use Rattle.unit_graph.proofs.places.find_in_all.Goals as goal

pub returns : goal.returns
returns c =
    let p : ℕ × ℕ = (c.args.file, c.args.to) in
    c.number_before.ensures.exact (IsPartitionPoint-from_clause
    (row_is_up_to p) c.args.rows.now _ c.partition_point-end.ensures.partitioned
    (parted p c.args.rows.now c.requires) (λ a r q k. search rules))
