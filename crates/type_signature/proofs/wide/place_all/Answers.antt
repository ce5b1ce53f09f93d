use Rattle.std.proofs.Common.{◌++◌, ◌∙◌, List, ℕ, ap}
use Rattle.type_signature.proofs.Commons.{IsPlaced-none}
use Rattle.type_signature.proofs.wide.place_all.Goals as goal

pub returns-in_ok-extend_from_slice-in-None : goal.returns-in_ok-extend_from_slice-in-None
returns-in_ok-extend_from_slice-in-None g c =
    let k = c.kept.ensures in
    let all = c.in_ok-extend_from_slice-in-None.ensures.items
    ∙ ap (λ (v : List ℕ). v ++ c.args.raw.now) c.clear.ensures.items in
    IsPlaced-none k.0 c.kept.result.now c.args.fwd.now k.1 c.in-None.is c.args.raw.now _ all
