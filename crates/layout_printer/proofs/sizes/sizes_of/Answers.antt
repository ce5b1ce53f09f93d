use Rattle.std.proofs.Common.{◌≡◌, ◌∙◌, ◌<◌, ◌+◌, [], List, Option, ℕ, length, sym, ap, subst}
use Rattle.std.proofs.Common.{rules, arith, map, below_more}
use Rattle.std.specs.Option.{option_flatten}
use Rattle.std.specs.List.{slice_get}
use Rattle.std.proofs.lemmas.List.{length-map}
use Rattle.c_model.specs.declared.graph.CType.{CType}
use Rattle.layout_printer.specs.Finding.{AreFound, IsKnown}
use Rattle.layout_printer.proofs.Knowing.{all_sizes, written_back}
use Rattle.layout_printer.proofs.sizes.sizes_of.Goals as goal

pub loop-x-preserved : goal.loop-x-preserved
loop-x-preserved c =
    let types : List CType = c.items-types.result.now in
    let old : c.deref_mut.result.now ≡ c.loop-x.found.items = c.deref_mut.ensures.value in
    let keeps : length c.find.new.found ≡ length c.loop-x.found.items = search rules in
    let len : c.loop-x.found.len ≡ length c.loop-x.found.items = search rules in
    let items = written_back c.find.new.found c.loop-x.found.items c.loop-x.found.len keeps len in
    let known : (y : ℕ) → y < c.loop-x.x → IsKnown c.find.new.found y =
    λ y lt. c.in_ok-find.ensures.stays y (subst (λ (f : List (Option (Option ℕ))). IsKnown f y)
    (sym old) (c.loop-x.invariant.known y lt)) in
    let new : IsKnown c.find.new.found c.loop-x.x =
    c.in_ok-find.ensures.known (omega (arith, c.loop-x-test.true)) in
    subst (λ (f : List (Option (Option ℕ))). record {
      found : AreFound types c.args.pointer [] f;
      known : (y : ℕ) → y < c.loop-x.x + 1 → IsKnown f y;
    }) (sym items) (record {
      found = c.in_ok-find.ensures.found;
      known = below_more _ _ known new;
    })

pub returns-clause-sizes : goal.returns-clause-sizes
returns-clause-sizes c =
    let found : List (Option (Option ℕ)) = c.loop-x.found.items in
    let items : c.in_ok-items.items.items ≡ map option_flatten found =
    c.in_ok-items.ensures ∙ ap (map option_flatten) c.deref.ensures.value in
    let right : AreFound c.args.table.now.types c.args.pointer [] found =
    subst (λ (types : List CType). AreFound types c.args.pointer [] found) c.items-types.ensures
    c.loop-x.invariant.found in
    let count : length c.items-types.result.now ≡ length c.args.table.now.types =
    ap (λ (types : List CType). length types) c.items-types.ensures in
    record {
      covers = ap (λ (l : List (Option ℕ)). length l) items ∙ length-map found option_flatten
          ∙ right.covers;
      each = λ (x : ℕ) (lt : x < length c.args.table.now.types).
          ap (λ (l : List (Option ℕ)). slice_get l x) items
          ∙ all_sizes c.args.table.now.types c.args.pointer found right x
          (c.loop-x.invariant.known x (omega (arith, lt, count, c.loop-x-test.false)));
    }
