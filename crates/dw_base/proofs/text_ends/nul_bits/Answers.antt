use Rattle.std.proofs.Common.{ℕ, ◌≡◌, cond, false, take, drop, map, length, ap, ◌∙◌, arith, w8, eqb}
use Rattle.std.proofs.lemmas.List.{get_or-map, length-take-le, length-drop}
use Rattle.std.proofs.lemmas.Simd.{bitmask_splat, bit_mask_l}
use Rattle.std.specs.Int.{bit_at}
use Rattle.dw_base.proofs.NulBits.{block_byte, nul_bit}
use Rattle.dw_base.proofs.text_ends.nul_bits.Goals as goal

pub returns : goal.returns
returns c k lt =
    let is_nul = λ (x : ℕ). eqb x 0 in
    let block = take 64 (drop c.args.from c.args.bytes.now) in
    let long : length block ≡ 64 =
    length-take-le 64 (drop c.args.from c.args.bytes.now) (omega (
      arith,
      c.requires,
      length-drop c.args.from c.args.bytes.now,
    )) in
    nul_bit _ _ (ap (λ n. bit_at n k) (bitmask_splat w8 eqb block 64 0 long (omega arith))
    ∙ bit_mask_l (map is_nul block) k
    ∙ ap (λ b. cond b 1 0) (get_or-map is_nul block k 0 false (omega (arith, long))
    ∙ ap is_nul (block_byte c.args.bytes.now c.args.from k lt)))
