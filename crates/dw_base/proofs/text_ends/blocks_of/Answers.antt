use Rattle.std.proofs.Common.{◌≡◌, ◌+◌, ◌*◌, List, length, sym, ap, ◌∙◌, subst, arith}
use Rattle.std.proofs.lemmas.List.{length_push}
use Rattle.dw_base.specs.Ends.{IsFirstNul, HasNulBits, IsBlockOf}
use Rattle.dw_base.specs.declared.text_ends.Block.{Block}
use Rattle.dw_base.proofs.FirstNul.{one_block_more}
use Rattle.dw_base.proofs.text_ends.blocks_of.Goals as goal

pub loop-number-preserved : goal.loop-number-preserved
loop-number-preserved c =
    let e = c.in_ok-push.ensures.items in
    let n = c.loop-number.invariant.count in
    let bytes = c.args.bytes.now in
    let before = c.loop-number.blocks.items in
    let number = c.loop-number.number in
    let behind = c.first_behind-behind.result in
    let b : Block = record { nul = c.nul_bits.result; behind = behind } in
    let place : 64 * number + 64 ≡ 64 * (number + 1) = omega arith in
    let turned : number * 64 ≡ 64 * number = omega arith in
    let here : IsBlockOf bytes number b = record {
      whole = omega (arith, c.loop-number.invariant.whole, c.loop-number-test.true);
      nul = subst (λ p. HasNulBits bytes p b.nul) turned c.nul_bits.ensures;
      behind = c.first_behind-behind.ensures;
    } in
    record {
      blocks = rw e (one_block_more bytes before b c.loop-number.invariant.blocks
          (subst (λ k. IsBlockOf bytes k b) (sym n) here));
      count = ap (λ (bs : List Block). length bs) e ∙ length_push before b ∙ ap (λ k. k + 1) n;
      behind = subst (λ p. IsFirstNul bytes p behind) place c.first_behind-behind.ensures;
      whole = c.loop-number.invariant.whole;
    }
