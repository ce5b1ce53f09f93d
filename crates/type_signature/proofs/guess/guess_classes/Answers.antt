use Rattle.std.proofs.Common.{◌∙◌, refl}
use denote.Param.Send.{sendable}
use Rattle.type_signature.proofs.Placed.{KeepsForwards-above}
use Rattle.type_signature.proofs.Settling.{IsCoarsestWith-settled}
use Rattle.type_signature.proofs.guess.guess_classes.Goals as goal

pub is_settled-requires-sync-R : goal.is_settled-requires-sync-R
is_settled-requires-sync-R b c κs within =
    let above = c.in_ok-first.ensures.above in
    let all = above.tells.shares.covers in (
      search sendable depth 20,
      (
        (refl, tt),
        (
          c.workers_for-workers.ensures,
          (
            c.requires.index,
            (
              c.in_ok-links.ensures,
              (
                rw c.deref.ensures.value all,
                above.placing.covers ∙ all,
              ),
            ),
          ),
        ),
      ),
    )

pub returns-clause-coarsest : goal.returns-clause-coarsest
returns-clause-coarsest b c =
    let s = b.G.TypeGraph.shape c.args.graph.now in
    λ t. IsCoarsestWith-settled s c.args.fwd.now c.requires.index c.requires.fitting
    c.in_ok-first.first.numbers.items c.in_ok-first.classes c.in_ok-first.ensures.above
    ((rw c.deref.ensures.value at c.in_ok-is_settled.ensures) t)

pub returns-clause-forwards : goal.returns-clause-forwards
returns-clause-forwards b c = KeepsForwards-above
    (b.G.TypeGraph.shape c.args.graph.now) c.args.fwd.now c.requires.index c.requires.fitting
    c.in_ok-first.first.numbers.items c.in_ok-first.classes c.in_ok-first.ensures.above
