use Rattle.std.proofs.Common.{◌≡◌, rules}
use Rattle.std.proofs.lemmas.Fn.{always_returns_same}
use Rattle.unit_graph.proofs.Rows.{place, kept_by_sort, ordered_by_sort}
use Rattle.unit_graph.proofs.places.order_rows.Goals as goal

pub returns-clause-order : goal.returns-clause-order
returns-clause-order c = ordered_by_sort _ (c.in_ok-sort_by_key.ensures.sorted place
    (always_returns_same _ (λ a r. r ≡ place a.0.now) _ (λ a r q k. search rules)))

pub returns-clause-numbers : goal.returns-clause-numbers
returns-clause-numbers c = kept_by_sort _ _ (c.sort_by_key.ensures.stable place
    (always_returns_same _ (λ a r. r ≡ place a.0.now) _ (λ a r q k. search rules)))
