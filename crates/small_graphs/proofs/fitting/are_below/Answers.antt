use Rattle.std.proofs.Common.{take, refl}
use Rattle.std.proofs.lemmas.List.{take_more, take_all}
use Rattle.std.proofs.lemmas.List.Elements.{All-push}
use Rattle.c_model.specs.Graph.{IsBelow}
use Rattle.c_model.specs.declared.graph.Ref.TheVariants.{Void}
use Rattle.small_graphs.proofs.fitting.are_below.Goals as goal

pub loop-target-preserved : goal.loop-target-preserved
loop-target-preserved c =
    rw (take_more c.args.targets.now c.loop-target.target-index Void c.loop-target-test.true)
    (All-push (IsBelow c.args.limit) (take c.loop-target.target-index c.args.targets.now) _
    c.loop-target.invariant (c.is_below.ensures.0 c.if-not-is_below.false))

pub returns : goal.returns
returns c = (
  λ t. rw (take_all c.loop-target.target-index c.args.targets.now c.loop-target-test.false)
      at c.loop-target.invariant,
  λ all. refl,
)
