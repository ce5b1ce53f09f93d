use Rattle.std.proofs.Common.{◌≡◌, ◌+◌, ◌-◌, drop, ap, ◌∙◌, sym, arith}
use Rattle.dw_base.specs.Names.{digest_before}
use Rattle.dw_base.proofs.Digests.{digest_none, digest_more}
use Rattle.dw_base.proofs.names.digest_before.Goals as goal

pub loop-at-init : goal.loop-at-init
loop-at-init c = (omega arith, digest_none c.args.rest c.args.bytes.now)

pub loop-at-preserved : goal.loop-at-preserved
loop-at-preserved c =
    let before : c.loop-at.at - 1 + 1 ≡ c.loop-at.at = omega (arith, c.loop-at-test.true) in (
      omega (arith, c.loop-at.invariant.0),
      digest_more c.args.rest c.args.bytes.now (c.loop-at.at - 1) c.loop-at.digest c.from.result
          (omega (arith, c.loop-at.invariant.0, c.loop-at-test.true))
          (c.loop-at.invariant.1 ∙ ap (λ n. digest_before c.args.rest (drop n c.args.bytes.now))
          (sym before))
          c.from.ensures,
    )
