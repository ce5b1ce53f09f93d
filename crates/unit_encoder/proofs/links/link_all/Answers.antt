use Rattle.std.proofs.Common.{◌≡◌, ◌+◌, ◌-◌, ◌^◌, ◌<◌, ◌++◌, ◌∷◌, All, [], ℕ, Bool, List, Some, Result}
use Rattle.std.proofs.Common.{Ok, Err, IsTrue, length, refl, sym, ap, subst, ◌∙◌, arith}
use Rattle.std.specs.List.{slice_get}
use Rattle.c_model.specs.Graph.{IsBelow}
use Rattle.c_model.specs.Partition.{label_at, targets_at}
use Rattle.c_model.specs.declared.label.Label.{Label}
use Rattle.c_model.specs.declared.graph.CType.{CType}
use Rattle.c_model.specs.declared.graph.Ref.{Ref}
use Rattle.unit_graph.specs.Links.{seen, refs_from}
use Rattle.unit_graph.specs.Numbers.{Numbers, PlacesRise}
use Rattle.unit_graph.specs.Sources.{Source}
use Rattle.unit_graph.specs.declared.links.Out.{Out}
use Rattle.unit_graph.specs.declared.places.NodePlace.{NodePlace}
use Rattle.unit_encoder.specs.Held.{Holds}
use Rattle.unit_encoder.specs.Rest.{ArePartsOf}
use Rattle.unit_encoder.specs.declared.piece.Piece.{Piece}
use Rattle.unit_encoder.specs.declared.piece.Unlinked.{Unlinked}
use Rattle.unit_encoder.proofs.Resting.{IsAnswer, resting_first, next_node}
use Rattle.unit_encoder.proofs.Resting.{resting_more, resting_stop, resting_end}
use Rattle.unit_encoder.proofs.links.link_all.Goals as goal

pub loop-x-init : goal.loop-x-init
loop-x-init c p parts local nodes h rise =
    resting_first local nodes p h rise c.in_ok-linked.linked c.in_ok-linked.ensures

pub returns : goal.returns
returns c p parts local nodes h rise =
    resting_end local nodes p h rise c.loop-x.x c.loop-x.next c.loop-x.linked
    (let n = c.len-x-end.ensures in let few = c.requires.few in let end = c.loop-x-test.false in
    omega (arith, n, few, end, ap length parts.nodes_are))
    (c.loop-x.invariant p parts local nodes h rise)

pub push-requires : goal.push-requires
push-requires c =
    let small = subst (λ (rs : List Ref). All (IsBelow (2 ^ 32 - 1)) rs)
    c.as_slice.ensures.value (c.if-not-are_small.ensures refl) in
    subst (λ (rs : List Ref). All (IsBelow (2 ^ 32 - 1)) rs)
    (sym c.as_slice-in-loop-x.ensures.value) small

-- the references of a node, as link_node answers them of some nodes, are those of the piece that the
-- nodes are a part of
answer_of : (local : Bool) (all : ℕ → List Source) (p : Piece) (h : Holds local all all p)
    (rise : IsTrue local → PlacesRise (all 0)) (nodes : List CType) (unlinked : List Unlinked)
    (places : List NodePlace) (x next more : ℕ) (r : Result (List Ref) Out)
    → ArePartsOf p nodes unlinked places
    → ((u : Unlinked) → slice_get unlinked next ≡ Some u → u.node ≡ x
    → (more ≡ next + 1) × ((ss : List Source) → Numbers places ss → length ss ≡ length nodes
    → r ≡ refs_from ss u.file u.index [] u.targets))
    → (((u : Unlinked) → slice_get unlinked next ≡ Some u → u.node ≡ x → ⊥)
    → (more ≡ next) × (r ≡ Ok (targets_at nodes x)))
    → IsAnswer local all p h rise places x next more r
answer_of local all p h rise nodes unlinked places x next more r parts taken passed =
    let at : slice_get unlinked next ≡ slice_get p.unlinked.items next =
    ap (λ (us : List Unlinked). slice_get us next) parts.unlinked_are in
    record {
      taken = λ u e is. let g = taken u (at ∙ e) is in
          (g.0, λ ss nums size. g.1 ss nums (size ∙ ap length (sym parts.nodes_are)));
      passed = λ none. let g = passed (λ u e is. none u (sym at ∙ e) is) in
          (g.0, g.1 ∙ ap (λ (ns : List CType). Ok (targets_at ns x)) parts.nodes_are);
    }

pub returns-in-Err : goal.returns-in-Err
returns-in-Err c p parts local nodes h rise =
    let x = c.loop-x.x in
    let r : Result (List Ref) Out = Err c.in-Err.out in
    let lt : x < length p.nodes = (let n = c.len-x-end.ensures in let few = c.requires.few in
    let t = c.loop-x-test.true in omega (arith, n, few, t, ap length parts.nodes_are)) in
    let rest = c.loop-x.invariant p parts local nodes h rise in
    let answer = answer_of local nodes p h rise c.args.nodes.now c.args.unlinked.now
    c.args.places.now x c.loop-x.next c.link_node.new.next r parts
    (λ u e at. let g = c.in_ok-refs.ensures.taken u e at in
    (g.0, λ all nums size. sym (ap seen c.in-Err.is) ∙ g.1 all nums size))
    (λ none. let g = c.in_ok-refs.ensures.passed none in
    (g.0, sym (ap seen c.in-Err.is) ∙ g.1)) in
    let next = next_node local nodes p h rise c.args.places.now x c.loop-x.next
    c.link_node.new.next c.loop-x.linked r parts.numbers_are lt rest answer in
    resting_stop local nodes p h rise x c.loop-x.next c.link_node.new.next c.loop-x.linked
    c.in-Err.out lt rest next

pub loop-x-preserved : goal.loop-x-preserved
loop-x-preserved c p parts local nodes h rise =
    let x = c.loop-x.x in
    let r : Result (List Ref) Out = Ok c.in-Ok.refs.items in
    let lt : x < length p.nodes = (let n = c.len-x-end.ensures in let few = c.requires.few in
    let t = c.loop-x-test.true in omega (arith, n, few, t, ap length parts.nodes_are)) in
    let rest = c.loop-x.invariant p parts local nodes h rise in
    let answer = answer_of local nodes p h rise c.args.nodes.now c.args.unlinked.now
    c.args.places.now x c.loop-x.next c.link_node.new.next r parts
    (λ u e at. let g = c.in_ok-refs.ensures.taken u e at in
    (g.0, λ all nums size. sym (ap seen c.in-Ok.is) ∙ g.1 all nums size))
    (λ none. let g = c.in_ok-refs.ensures.passed none in
    (g.0, sym (ap seen c.in-Ok.is) ∙ g.1)) in
    let next = next_node local nodes p h rise c.args.places.now x c.loop-x.next
    c.link_node.new.next c.loop-x.linked r parts.numbers_are lt rest answer in
    let made : c.push.new.self ≡ c.loop-x.linked ++ record {
      label = c.label.result.now;
      targets = c.in-Ok.refs.items;
    } ∷ [] =
    c.in_ok-push.ensures.pushed
    ∙ ap (λ (l : Label). c.loop-x.linked ++ record {
      label = l;
      targets = c.as_slice-in-loop-x.result.now;
    } ∷ []) c.in_ok-copy_of_label.ensures
    ∙ ap (λ (rs : List Ref). c.loop-x.linked ++ record {
      label = c.label.result.now;
      targets = rs;
    } ∷ []) c.as_slice-in-loop-x.ensures.value in
    let label = sym (ap (λ (ns : List CType). label_at ns x) parts.nodes_are) ∙ c.label.ensures in
    resting_more local nodes p h rise x c.loop-x.next c.link_node.new.next c.loop-x.linked
    c.push.new.self c.in-Ok.refs.items c.label.result.now lt rest next label made
