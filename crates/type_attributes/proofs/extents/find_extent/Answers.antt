use Rattle.std.proofs.Common.{◌≡◌, ◌<◌, nat_lt, length, get_or, rules, arith, ◌∙◌}
use Rattle.std.proofs.lemmas.List.Sorted.{IsPartitionPoint-from_clause, IsPartitionedBy-ltb}
use Rattle.type_attributes.specs.declared.number.Number.TheVariants.{Natural}
use Rattle.type_attributes.specs.declared.extents.Extent.TheVariants.{Bytes}
use Rattle.type_attributes.specs.declared.extents.ExtentRow.{ExtentRow}
use Rattle.type_attributes.proofs.Searching.{EndsAt, found_there, found_nowhere}
use Rattle.type_attributes.proofs.extents.find_extent.Goals.{else-k-rows-via-then-k-rows+else-from-to}
use Rattle.type_attributes.proofs.extents.find_extent.Goals.{else-k-rows-via-else-k-rows}
use Rattle.type_attributes.proofs.extents.find_extent.Goals as goal

abbrev none : ExtentRow
none = record { at = 0; extent = Bytes (Natural 0) }

pub returns-then-from-to : goal.returns-then-from-to
returns-then-from-to c =
    let rows = c.args.rows.now in
    let k = c.partition_point-k.result in
    let ends : EndsAt c.args.to rows k =
    IsPartitionPoint-from_clause (λ (r : ExtentRow). nat_lt r.at c.args.to) rows _
    c.partition_point-k.ensures.partitioned (IsPartitionedBy-ltb
    (λ (r : ExtentRow). r.at) rows c.args.to c.requires) (λ a r q k. search rules) in
    found_there rows k c.args.to none ends c.if-k-rows.true (search rules)

pub returns-else-k-rows : goal.returns-else-k-rows
returns-else-k-rows c =
    let rows = c.args.rows.now in
    let k = c.partition_point-k.result in
    let ends : EndsAt c.args.to rows k =
    IsPartitionPoint-from_clause (λ (r : ExtentRow). nat_lt r.at c.args.to) rows _
    c.partition_point-k.ensures.partitioned (IsPartitionedBy-ltb
    (λ (r : ExtentRow). r.at) rows c.args.to c.requires) (λ a r q k. search rules) in
    let away : c.partition_point-k.result < length c.args.rows.now
    → (get_or c.args.rows.now c.partition_point-k.result none).at ≡ c.args.to → ⊥ =
    elim c.else-k-rows.branch [
      | else-k-rows-via-then-k-rows+else-from-to w ↦ λ lt here.
          absurd (w.if-from-to.false (w.from.ensures ∙ here))
      | else-k-rows-via-else-k-rows w ↦ λ lt here. absurd (omega (arith, lt, w.if-k-rows.false))
    ] in
    found_nowhere rows k c.args.to none c.requires ends away
