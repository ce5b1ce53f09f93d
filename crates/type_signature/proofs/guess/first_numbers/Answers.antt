use Rattle.std.proofs.Common.{◌∙◌, sym, refl}
use denote.Param.Send.{sendable}
use Rattle.type_signature.proofs.Placed.{IsAbove-paired}
use Rattle.type_signature.proofs.guess.first_numbers.Goals as goal

pub guessed-requires-sync-R : goal.guessed-requires-sync-R
guessed-requires-sync-R b c κs within = (
  search sendable depth 20,
  (
    (refl, tt),
    (
      c.requires.workers,
      (
        c.requires.index,
        (
          c.requires.fitting,
          (
            c.requires.links,
            rw c.deref.ensures.value c.in_ok-start.ensures.numbers,
          ),
        ),
      ),
    ),
  ),
)

pub paired-requires-clause-same : goal.paired-requires-clause-same
paired-requires-clause-same b c =
    let few = c.in_ok-guess.ensures.coarse.1.shares.covers in
    let all = c.in_ok-start.ensures.numbers.covers in
    rw (c.deref-2.ensures.value, c.deref-3.ensures.value) (few ∙ sym all)

pub returns-clause-above : goal.returns-clause-above
returns-clause-above b c =
    let s = b.G.TypeGraph.shape c.args.graph.now in
    let index = c.args.fwd.now in
    let raw = c.in_ok-start.start.numbers.items in
    let guess = c.in_ok-guess.guess.items in
    let coarse = c.in_ok-guess.ensures.coarse in
    let above = rw c.deref.ensures.value at c.in_ok-guess.ensures.above in
    let numbers = rw (
      c.deref-2.ensures.value,
      c.deref-3.ensures.value,
      c.in_ok-start.ensures.numbers.covers,
    ) at c.in_ok-first.ensures.numbers in
    let now = rw c.deref-4.ensures.value at c.in_ok-now.ensures in
    IsAbove-paired s index c.requires.index c.requires.fitting raw above.0 guess
    coarse.0 c.in_ok-first.first.numbers.items c.in_ok-now.now above.1 coarse.1 numbers now
