use Rattle.std.proofs.Common.{◌≡◌, ◌<◌, ◌∷◌, [], ◌++◌, length, Some, List, refl, rules, arith}
use Rattle.std.specs.List.{slice_get}
use Rattle.std.proofs.lemmas.Option.{slice_get_read}
use Rattle.c_model.specs.declared.graph.CType.{CType}
use Rattle.layout_printer.proofs.Knowing.{return_bound, return_on}
use Rattle.layout_printer.proofs.finding.go_back.Goals as goal

pub bounds-types-y : goal.bounds-types-y
bounds-types-y c =
    return_bound c.args.types.now c.args.pointer c.args.found.now c.loop-y.found c.loop-y.path.items
    c.pop.new.self.items c.loop-y.size c.in-Some.y
    c.loop-y.invariant (search rules)

pub bounds-found-y : goal.bounds-found-y
bounds-found-y c =
    let lt = return_bound c.args.types.now c.args.pointer c.args.found.now c.loop-y.found
    c.loop-y.path.items c.pop.new.self.items c.loop-y.size c.in-Some.y
    c.loop-y.invariant (search rules) in
    omega (arith, lt, c.loop-y.invariant.right.covers)

pub loop-y-preserved : goal.loop-y-preserved
loop-y-preserved c =
    let types : List CType = c.args.types.now in
    let items : c.loop-y.path.items ≡ c.pop.new.self.items ++ c.in-Some.y ∷ [] = search rules in
    let lt : c.in-Some.y < length types =
    return_bound types c.args.pointer c.args.found.now c.loop-y.found c.loop-y.path.items
    c.pop.new.self.items c.loop-y.size c.in-Some.y c.loop-y.invariant items in
    let there : slice_get types c.in-Some.y ≡ Some c.index-types-y.result =
    slice_get_read types
    (length types) c.in-Some.y c.index-types-y.result refl lt c.index-types-y.is in
    return_on types c.args.pointer c.args.found.now c.loop-y.found c.loop-y.path.items
    c.pop.new.self.items c.loop-y.size c.size_over-size.result c.in-Some.y c.index-types-y.result
    c.loop-y.invariant items there c.size_over-size.ensures
