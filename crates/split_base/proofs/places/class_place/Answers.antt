use Rattle.std.proofs.Common.{◌≡◌, ◌∙◌, ◌≤◌, ◌+◌, ℕ, ap, arith, length, nat_eq, subst, sym}
use Rattle.std.specs.HashMap.{get}
use Rattle.split_base.specs.Building.{IsPlaced}
use Rattle.split_base.specs.Table.{place_of}
use Rattle.split_base.proofs.Placing.{placed_before, placed_first, room_before}
use Rattle.split_base.proofs.places.class_place.Given.{Over}
use Rattle.split_base.proofs.places.class_place.Goals.{In-Some, In_ok-insert}
use Rattle.split_base.proofs.places.class_place.Goals as goal

-- the class of the node has its place already
placed_already : (b : Over) (c : In-Some b)
    → IsPlaced (b.G.TypeGraph.shape c.args.graph.now) c.args.classes.now (c.args.x + 1)
    (get nat_eq c.args.known.now) c.args.firsts.now.items
    × (c.in-Some.place.now
    ≡ place_of (b.G.TypeGraph.shape c.args.graph.now) c.args.classes.now c.args.x)
placed_already b c =
    placed_before (b.G.TypeGraph.shape c.args.graph.now) c.args.classes.now c.args.x
    (get nat_eq c.args.known.now) c.args.firsts.now.items c.in-Some.place.now
    (omega (arith, c.requires.covers))
    c.requires.before (ap (get nat_eq c.args.known.now) (sym c.of-number.ensures)
    ∙ sym c.in-Some.ensures.value)

pub returns-in-Some-clause-after : goal.returns-in-Some-clause-after
returns-in-Some-clause-after b c =
    (placed_already b (goal.at.returns-in-Some-clause-after b c).In-Some).0

pub returns-in-Some-clause-place : goal.returns-in-Some-clause-place
returns-in-Some-clause-place b c =
    (placed_already b (goal.at.returns-in-Some-clause-place b c).In-Some).1

pub new_place-requires : goal.new_place-requires
new_place-requires b c =
    subst (λ (b : ℕ). b ≤ c.args.x → b + length c.args.firsts.now.items ≤ c.args.x)
    (sym c.base.ensures.base)
    (room_before (b.G.TypeGraph.shape c.args.graph.now) c.args.classes.now c.args.x
    (get nat_eq c.args.known.now) c.args.firsts.now.items c.requires.before)

-- the class of the node is new, and gets its place
placed_now : (b : Over) (c : In_ok-insert b)
    → IsPlaced (b.G.TypeGraph.shape c.args.graph.now) c.args.classes.now (c.args.x + 1)
    (get nat_eq c.insert.new.self) c.new_place.new.firsts.items
    × (c.in_ok-place.place
    ≡ place_of (b.G.TypeGraph.shape c.args.graph.now) c.args.classes.now c.args.x)
placed_now b c =
    placed_first (b.G.TypeGraph.shape c.args.graph.now) c.args.classes.now c.args.x
    (get nat_eq c.args.known.now) (get nat_eq c.insert.new.self) c.args.firsts.now.items
    c.new_place.new.firsts.items c.in_ok-place.place
    (omega (arith, c.requires.covers)) c.requires.node c.requires.before
    (ap (get nat_eq c.args.known.now) (sym c.of-number.ensures) ∙ sym c.in_default.ensures.value)
    (rw c.base.ensures.base at c.in_ok-place.ensures)
    (rw c.of-number.ensures at c.in_ok-insert.ensures.updates.0)

pub returns-clause-after : goal.returns-clause-after
returns-clause-after b c = (placed_now b c).0

pub returns-clause-place : goal.returns-clause-place
returns-clause-place b c = (placed_now b c).1
