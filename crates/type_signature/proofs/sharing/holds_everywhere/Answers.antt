use Rattle.std.proofs.Common.{◌≡◌, ◌+◌, ◌/◌, true, get_or, refl, sym, ◌∙◌, ap, arith}
use Rattle.std.proofs.Math.Nat.{div-le_self}
use Rattle.type_signature.proofs.Shares.{share-covers}
use Rattle.type_signature.proofs.sharing.holds_everywhere.Goals as goal

pub overflow_add-size : goal.overflow_add-size
overflow_add-size g c = omega (arith, div-le_self c.args.count c.args.workers)

pub returns : goal.returns
returns g c = λ yes.
    let answers = c.in_ok-answers.answers.items in
    share-covers c.args.count c.args.workers (c.args.count / c.args.workers + 1)
    c.requires.workers refl (λ x. g.H.HoldsAt.holds c.args.of.now x) (λ s within x from to lt.
    let one : get_or answers s true ≡ true =
    ap (λ bs. get_or bs s true) (sym c.deref.ensures.value)
    ∙ c.all_yes.ensures yes s true
    (omega (arith, c.in_ok-answers.ensures.len, c.deref.ensures.len)) in
    (c.in_ok-answers.ensures.each s true within).1.met one x from to lt)
