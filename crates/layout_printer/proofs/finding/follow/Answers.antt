use Rattle.std.proofs.Common.{◌≡◌, ◌∙◌, ◌∷◌, [], ◌++◌, length, sym, subst, Some, None, List, ℕ}
use Rattle.std.proofs.Common.{rules}
use Rattle.std.proofs.Math.ListN.{set}
use Rattle.std.specs.List.{slice_get}
use Rattle.std.proofs.lemmas.Option.{slice_get_read, slice_get_within}
use Rattle.c_model.specs.declared.graph.CType.{CType}
use Rattle.c_model.specs.declared.graph.Ref.{Ref}
use Rattle.layout_printer.proofs.Ways.{fewer}
use Rattle.layout_printer.proofs.Knowing.{IsFollowing, follow_on, found_way, known_end, unknown_is}
use Rattle.layout_printer.proofs.Knowing.{way_size}
use Rattle.layout_printer.proofs.finding.follow.Goals as goal

pub loop-y-smaller : goal.loop-y-smaller
loop-y-smaller c =
    fewer c.loop-y.found c.in-Some.y None
    (unknown_is c.loop-y.found c.loop-y.at c.in-Some.y (sym c.in-Some.ensures)).1

pub loop-y-preserved : goal.loop-y-preserved
loop-y-preserved c =
    let types : List CType = c.args.types.now in
    let unknown : slice_get c.loop-y.found c.in-Some.y ≡ Some None =
    (unknown_is c.loop-y.found c.loop-y.at c.in-Some.y (sym c.in-Some.ensures)).1 in
    let lt = slice_get_within c.loop-y.found c.in-Some.y None unknown in
    let there : slice_get types c.in-Some.y ≡ Some c.index-types-y.result =
    slice_get_read types (length c.loop-y.found) c.in-Some.y c.index-types-y.result
    c.loop-y.invariant.covers lt c.index-types-y.is in
    let items : c.push.new.self.items ≡ c.loop-y.path.items ++ c.in-Some.y ∷ [] = search rules in
    subst (λ (p : List ℕ). IsFollowing types c.args.found.now
    (set c.loop-y.found c.in-Some.y (Some None)) p c.behind-at.result c.args.x) (sym items)
    (subst (λ (r : Ref). IsFollowing types c.args.found.now (set c.loop-y.found c.in-Some.y
    (Some None)) (c.loop-y.path.items ++ c.in-Some.y ∷ []) r c.args.x) (sym c.behind-at.ensures)
    (follow_on types c.args.found.now c.loop-y.found c.loop-y.path.items c.loop-y.at c.args.x
    c.in-Some.y c.index-types-y.result c.loop-y.invariant (sym c.in-Some.ensures) there))

pub returns-clause-way : goal.returns-clause-way
returns-clause-way c = λ pointer f. record {
  at = c.loop-y.at;
  chain = c.loop-y.invariant.chain;
  size = c.known_size-size.ensures
      ∙ way_size c.args.types.now pointer c.args.found.now c.loop-y.found c.loop-y.path.items
      c.loop-y.at c.args.x c.loop-y.invariant f (sym c.in_default.ensures);
  right = found_way c.args.types.now pointer c.args.found.now c.loop-y.found c.loop-y.path.items
      c.loop-y.at c.args.x c.loop-y.invariant f;
}

pub returns-clause-known : goal.returns-clause-known
returns-clause-known c =
    known_end c.args.types.now c.args.found.now c.loop-y.found c.loop-y.path.items c.loop-y.at
    c.args.x c.loop-y.invariant (sym c.in_default.ensures)
