use Rattle.std.proofs.Common.{◌<◌, length, arith}
use Rattle.small_graphs.proofs.fitting.are_like.Goals as goal

pub returns-then-not-is_like : goal.returns-then-not-is_like
returns-then-not-is_like c = (
  λ t. absurd (cc),
  λ all. let within : c.loop-y.y < length c.args.graph.now.nodes =
      omega (arith, c.loop-y-test.true, c.len-y-end.ensures.len) in
      let like = c.is_like.ensures.1 (λ tag fx fy. all c.loop-y.y tag within fx fy) in
      absurd (cc),
)
