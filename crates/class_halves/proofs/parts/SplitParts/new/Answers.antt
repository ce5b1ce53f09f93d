use Rattle.std.proofs.Common.{◌≡◌, ◌∙◌, None, refl, length, get_or, sym, ap, subst, arith}
use Rattle.class_halves.specs.Parts.{IsCut, IsStable, IsBeside, Nothing, no_node}
use Rattle.class_halves.specs.Moves.{IsFull}
use Rattle.class_halves.proofs.Counting.{none-marked}
use Rattle.class_halves.proofs.Moving.{full-count, numbers-within}
use Rattle.class_halves.proofs.Opening.{IsStable-all}
use Rattle.class_halves.proofs.parts.SplitParts.new.Goals as goal

pub set_beside-requires : goal.set_beside-requires
set_beside-requires g c k =
    let cut : IsCut (g.G.TypeGraph.shape c.args.graph.now) c.args.fwd.now c.deref.result.now =
    rw c.deref.ensures.value c.requires.cut in
    let below = numbers-within c.args.start.numbers.items c.deref.result.now c.args.start.count
    c.deref.ensures.value c.requires.full c.requires.below in
    ((refl, tt), (c.requires.index, (c.requires.fitting, (cut, below))))

pub all_wait-requires-clause-known : goal.all_wait-requires-clause-known
all_wait-requires-clause-known g c a k e =
    let b = subst (λ v. IsBeside (g.G.TypeGraph.shape c.args.graph.now) c.args.fwd.now v
    c.in_ok-beside.beside.items) c.deref.ensures.value c.in_ok-beside.ensures.beside in
    let s = b.sound a k (ap (λ l. get_or l a None) (sym c.deref-2.ensures.value) ∙ e) in
    let n = c.requires.cut.covers in
    let h = c.requires.below s.forward (let m = s.node in omega arith) in
    let f = full-count c.args.start.numbers.items c.args.start.count c.requires.full in
    let q = s.class in
    let l = c.len-most.ensures.len in
    omega arith

pub all_wait-requires-clause-count : goal.all_wait-requires-clause-count
all_wait-requires-clause-count g c =
    let n = c.requires.cut.covers in
    let f = full-count c.args.start.numbers.items c.args.start.count c.requires.full in
    let l = c.len-most.ensures.len in
    omega arith

pub new-requires-3 : goal.new-requires-3
new-requires-3 g c = numbers-within c.args.start.numbers.items c.new-2.result c.args.start.count
    (c.new-2.ensures ∙ c.new.ensures) c.requires.full c.requires.below

pub invariant_of-result : goal.invariant_of-result
invariant_of-result g c =
    let em : c.in_ok-members.members.classes ≡ c.args.start.numbers.items =
    c.in_ok-members.ensures.classes ∙ (c.in_ok-classes.ensures ∙ (c.new-2.ensures ∙ c.new.ensures)) in
    let lm : length c.in_ok-members.members.classes ≡ length c.args.start.numbers.items = ap length em in
    let n = c.requires.cut.covers in
    let f = full-count c.args.start.numbers.items c.args.start.count c.requires.full in
    let l = c.len-most.ensures.len in
    let few = c.len-most.type_inv in
    let d : length c.deref.result.now ≡ length c.args.start.numbers.items =
    ap length c.deref.ensures.value in
    let rb = c.in_ok-beside.ensures.room in
    let rw' = c.in_ok-waiting.ensures.room in
    let rt = c.in_ok-twins.ensures.room in
    let ln = c.len.ensures in
    let b = subst (λ v. IsBeside (g.G.TypeGraph.shape c.args.graph.now) c.args.fwd.now v
    c.in_ok-beside.beside.items) c.deref.ensures.value c.in_ok-beside.ensures.beside in
    record {
      room = record {
        few = omega arith;
        fresh = omega arith;
        beside_room = omega arith;
        flags_room = omega arith;
        twins_room = omega arith;
        beside_known = λ a k e. let s = b.sound a k e in let h = c.requires.below s.forward
            (let m = s.node in omega arith) in let q = s.class in omega arith;
      };
    }

pub returns-clause-stable : goal.returns-clause-stable
returns-clause-stable g c =
    let em : c.in_ok-members.members.classes ≡ c.args.start.numbers.items =
    c.in_ok-members.ensures.classes ∙ (c.in_ok-classes.ensures ∙ (c.new-2.ensures ∙ c.new.ensures)) in
    let b = subst (λ v. IsBeside (g.G.TypeGraph.shape c.args.graph.now) c.args.fwd.now v
    c.in_ok-beside.beside.items) c.deref.ensures.value c.in_ok-beside.ensures.beside in
    let n = c.requires.cut.covers in
    let s = IsStable-all (g.G.TypeGraph.shape c.args.graph.now) c.args.fwd.now c.requires.index
    c.requires.fitting c.args.start.numbers.items c.requires.cut c.len-most.ensures.sound.within
    c.in_ok-beside.beside.items b c.in_ok-waiting.waiting c.args.start.count
    (λ x hx. c.requires.below x (omega arith)) (λ k lt none. c.in_ok-waiting.ensures.waits k lt
    (λ a e. none a (ap (λ l. get_or l a None) (sym c.deref-2.ensures.value) ∙ e))) in
    subst (λ r. IsStable (g.G.TypeGraph.shape c.args.graph.now) c.args.fwd.now r
    c.in_ok-waiting.waiting Nothing no_node) (sym em) s

pub returns-clause-full : goal.returns-clause-full
returns-clause-full g c =
    let em : c.in_ok-members.members.classes ≡ c.args.start.numbers.items =
    c.in_ok-members.ensures.classes ∙ (c.in_ok-classes.ensures ∙ (c.new-2.ensures ∙ c.new.ensures)) in
    subst (λ r. IsFull r c.args.start.count) (sym em) c.requires.full

pub returns-clause-none : goal.returns-clause-none
returns-clause-none g c x = none-marked c.in_ok-members.members.marked.items
    (length c.in_ok-classes.classes) x c.in_ok-members.ensures.none
