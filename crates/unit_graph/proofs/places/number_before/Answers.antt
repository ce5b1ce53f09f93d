use Rattle.std.proofs.Common.{◌≡◌, ◌<◌, length, get_or, false, sym, arith}
use Rattle.unit_graph.specs.Numbers.{row_is_at}
use Rattle.unit_graph.proofs.Rows.{found, nowhere}
use Rattle.unit_graph.proofs.places.number_before.Goals.{else-end-rows-via-then-end-rows+else-is_at}
use Rattle.unit_graph.proofs.places.number_before.Goals.{else-end-rows-via-else-end-rows}
use Rattle.unit_graph.proofs.places.number_before.Goals as goal

pub returns-then-end-eq0-clause-exact : goal.returns-then-end-eq0-clause-exact
returns-then-end-eq0-clause-exact c ends =
    sym (nowhere (c.args.file, c.args.to) c.args.rows.now c.args.end
    (record { file = 0; number = 0; at = 0 }) c.requires.order ends c.requires.within
    (λ (pos : 0 < c.args.end). absurd (omega arith)))

pub returns-then-not-is_at-clause-exact : goal.returns-then-not-is_at-clause-exact
returns-then-not-is_at-clause-exact c ends =
    sym (nowhere (c.args.file, c.args.to) c.args.rows.now c.args.end
    (record { file = 0; number = 0; at = 0 }) c.requires.order ends c.requires.within
    (λ (pos : 0 < c.args.end). sym c.if-not-is_at.ensures))

pub returns-clause-found : goal.returns-clause-found
returns-clause-found c =
    let next : c.args.end < length c.args.rows.now → row_is_at (c.args.file, c.args.to)
    (get_or c.args.rows.now c.args.end (record { file = 0; number = 0; at = 0 })) ≡ false =
    elim c.else-end-rows.branch [
      | else-end-rows-via-then-end-rows+else-is_at w ↦ λ lt. sym w.if-is_at.ensures
      | else-end-rows-via-else-end-rows w ↦ λ lt. absurd (omega arith)
    ] in
    found (c.args.file, c.args.to) c.args.rows.now c.args.end (record {
      file = 0;
      number = 0;
      at = 0;
    }) c.requires.order (omega arith) c.requires.within (sym c.if-not-is_at.ensures) next

pub returns-clause-exact : goal.returns-clause-exact
returns-clause-exact c ends = sym (returns-clause-found c)
