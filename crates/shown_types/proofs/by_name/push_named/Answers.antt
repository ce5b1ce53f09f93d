use Rattle.std.proofs.Common.{◌≡◌, ◌∙◌, ◌++◌, ◌∷◌, [], ap, subst, rules, Option, List, ℕ}
use Rattle.std.specs.List.{slice_get}
use Rattle.std.specs.Option.{option_flatten}
use Rattle.shown_types.specs.Listed.{places_named}
use Rattle.shown_types.proofs.Naming.{IsGoing, go_on, going, gone}
use Rattle.shown_types.proofs.by_name.push_named.Goals as goal

pub loop-init : goal.loop-init
loop-init c =
    going c.args.types.now c.args.name.now c.args.all.now.items c.first_of-at.result
    (c.first_of-at.ensures ∙ c.requires.heads c.args.name.now)

pub returns-in-None : goal.returns-in-None
returns-in-None c =
    let whole : List ℕ = c.args.all.now.items ++ places_named c.args.types.now c.args.name.now in
    gone c.args.types.now c.args.name.now c.loop.all.items whole c.loop.counter
    (subst (λ (o : Option ℕ). IsGoing c.args.types.now c.args.name.now c.loop.counter
    c.loop.all.items whole o) c.in-None.is c.loop.invariant)

pub loop-preserved : goal.loop-preserved
loop-preserved c =
    let whole : List ℕ = c.args.all.now.items ++ places_named c.args.types.now c.args.name.now in
    let pushed : c.push.new.self.items ≡ c.loop.all.items ++ c.in-Some.x ∷ [] = search rules in
    go_on c.args.types.now c.args.name.now c.loop.all.items c.push.new.self.items whole
    c.loop.counter c.in-Some.x c.args.by_name.now.first.entries
    c.args.by_name.now.next.items c.next_of-at.result c.requires
    (subst (λ (o : Option ℕ). IsGoing c.args.types.now c.args.name.now c.loop.counter
    c.loop.all.items whole o) c.in-Some.is c.loop.invariant)
    pushed (c.next_of-at.ensures ∙ ap
    (λ (l : List (Option ℕ)). option_flatten (slice_get l c.in-Some.x)) c.deref.ensures.value)
