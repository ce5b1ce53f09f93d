use Rattle.std.proofs.Common.{◌≡◌, ◌∙◌, ◌<◌, ◌+◌, suc, sym, ap, subst, arith, length, List, Some}
use Rattle.c_model.specs.declared.graph.CType.{CType}
use Rattle.layout_printer.specs.Layout.{IsStructure}
use Rattle.shown_types.specs.Listed.{structure_at}
use Rattle.shown_types.proofs.Keeping.{place_within, kept_more}
use Rattle.shown_types.proofs.Lacking.{laid_out, structure_there}
use Rattle.shown_types.proofs.showing.show_place.Goals as goal

pub returns-in-Some-clause-shows : goal.returns-in-Some-clause-shows
returns-in-Some-clause-shows c =
    let types : List CType = c.args.source.table.now.types in
    let is : structure_at types c.args.x ≡ Some c.unwrap-structure.result =
    sym (c.structure_at.ensures ∙ ap (λ (ts : List CType). structure_at ts c.args.x)
    c.items.ensures) ∙ c.unwrap-structure.ensures in
    let laid =
    laid_out types c.args.source.sizes.now.pointer c.args.x c.unwrap-structure.result
    c.in-Some.counted.now.layout is
    (c.requires.kept c.unwrap-structure.result c.in-Some.counted.now
    (sym c.in-Some.ensures.value)).layout in (
      c.in-Some.counted.now.layout,
      laid.0,
      laid.1,
      c.in_ok-put_shown.ensures,
    )

pub put_shown-requires-2-clause-few : goal.put_shown-requires-2-clause-few
put_shown-requires-2-clause-few c =
    let types : List CType = c.args.source.table.now.types in
    let is : structure_at types c.args.x ≡ Some c.unwrap-structure.result =
    sym (c.structure_at.ensures ∙ ap (λ (ts : List CType). structure_at ts c.args.x)
    c.items.ensures) ∙ c.unwrap-structure.ensures in
    let within : c.args.x < length types =
    place_within types c.args.x c.unwrap-structure.result is in
    omega (arith, within, c.requires.source.few)

pub put_shown-requires-clause-counted : goal.put_shown-requires-clause-counted
put_shown-requires-clause-counted c =
    (c.requires.kept c.unwrap-structure.result c.in-Some.counted.now
    (sym c.in-Some.ensures.value)).counted

pub counted_layout-requires-clause-structure : goal.counted_layout-requires-clause-structure
counted_layout-requires-clause-structure c =
    let types : List CType = c.args.source.table.now.types in
    let is : structure_at types c.args.x ≡ Some c.unwrap-structure.result =
    sym (c.structure_at.ensures ∙ ap (λ (ts : List CType). structure_at ts c.args.x)
    c.items.ensures) ∙ c.unwrap-structure.ensures in
    let step : suc c.unwrap-structure.result ≡ c.unwrap-structure.result + 1 = omega arith in
    subst (IsStructure types) step (structure_there types c.args.x c.unwrap-structure.result is)

pub returns-clause-kept : goal.returns-clause-kept
returns-clause-kept c =
    let types : List CType = c.args.source.table.now.types in
    let is : structure_at types c.args.x ≡ Some c.unwrap-structure.result =
    sym (c.structure_at.ensures ∙ ap (λ (ts : List CType). structure_at ts c.args.x)
    c.items.ensures) ∙ c.unwrap-structure.ensures in
    let laid = c.in_ok-counted.ensures c.args.x is in
    kept_more types c.args.source.sizes.now.pointer c.args.source.style c.args.x
    c.unwrap-structure.result c.in_ok-counted.counted _ _ is laid.1 laid.2
    c.in_ok-insert.ensures.updates.0 c.requires.kept
