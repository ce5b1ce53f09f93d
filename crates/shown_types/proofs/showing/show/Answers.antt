use Rattle.std.proofs.Common.{◌≡◌, sym, ◌∙◌, subst, ap, List, ℕ, All, IsTrue}
use Rattle.std.specs.Option.{option_copied}
use Rattle.c_model.specs.declared.graph.CType.{CType}
use Rattle.shown_types.specs.Listed.{is_listed, chosen}
use Rattle.shown_types.proofs.Choices.{chosen_listed}
use Rattle.shown_types.proofs.showing.show.Goals as goal

pub show_places-requires-clause-listed : goal.show_places-requires-clause-listed
show_places-requires-clause-listed c =
    let types : List CType = c.args.table.now.types in
    let places : c.as_slice.result.now
    ≡ chosen types c.args.table.now.base (option_copied c.args.names) =
    c.as_slice.ensures.value ∙ c.in_ok-places.ensures.1
    ∙ ap (λ (ts : List CType). chosen ts c.args.table.now.base (option_copied c.args.names))
    c.items.ensures in
    subst (All (λ (x : ℕ). IsTrue (is_listed types x))) (sym places)
    (chosen_listed types c.args.table.now.base (option_copied c.args.names))
