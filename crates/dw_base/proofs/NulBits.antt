-- Bits that say which bytes are NUL, and the lowest of them.
use Rattle.std.proofs.Common.{◌≡◌, ◌≢◌, ℕ, ◌+◌, ◌-◌, ◌*◌, ◌/◌, ◌%◌, ◌^◌, ◌<◌, Bool}
use Rattle.std.proofs.Common.{true, false, cond, ◌==◌, inl, inr, List, take, drop, get_or}
use Rattle.std.proofs.Common.{refl, sym, ap, ◌∙◌, arith, w64}
use Rattle.std.proofs.Math.Nat.{div-le_self}
use Rattle.std.proofs.lemmas.Bool.{eqb-true, eq-eqb, cases_lt}
use Rattle.std.proofs.lemmas.List.{get_or-drop, get_or-take}
use Rattle.std.proofs.lemmas.Nat.{shr-shr}
use Rattle.std.proofs.lemmas.Nat.Bits.{bit_at-trailing_zeros, bit_at-zero}
use Rattle.std.proofs.lemmas.Nat.Bits.{bit_at_above}
use Rattle.std.specs.Int.{bit_at, trailing_zeros}
use Rattle.dw_base.specs.Ends.{IsFirstNul, HasNulBits, IsBlockOf}
use Rattle.dw_base.specs.declared.text_ends.Block.{Block}

-- the bytes of a block
pub block_byte : (bytes : List ℕ) (from k : ℕ) → k < 64
    → get_or (take 64 (drop from bytes)) k 0 ≡ get_or bytes (from + k) 0
block_byte bytes from k lt =
    get_or-take 64 (drop from bytes) k 0 lt ∙ get_or-drop from bytes k 0

abbrev pub bit_of : Bool → ℕ
bit_of b = cond b 1 0

as_bit : (b : Bool) → (bit_of b ≡ 1 → b ≡ true) × (b ≡ true → bit_of b ≡ 1)
as_bit true = (λ e. refl, λ e. refl)
as_bit false = (λ e. absurd (cc), λ e. absurd (cc))

-- a bit that is a test of a byte
pub nul_bit : (x bit : ℕ) → bit ≡ bit_of (x == 0) → (bit ≡ 1 → x ≡ 0) × (x ≡ 0 → bit ≡ 1)
nul_bit x bit e = (
  λ one. eqb-true x 0 ((as_bit (x == 0)).0 (sym e ∙ one)),
  λ is. e ∙ (as_bit (x == 0)).1 (eq-eqb x 0 is),
)

-- a bit of a word without its lowest bits
bit_behind : (word low k : ℕ) → bit_at (word / 2 ^ low) k ≡ bit_at word (low + k)
bit_behind word low k = ap (λ x. x % 2) (shr-shr word low k)

-- a byte whose bit isn't set
no_nul : (bytes : List ℕ) (from word k : ℕ) → HasNulBits bytes from word → k < 64
    → bit_at word k ≡ 0 → get_or bytes (from + k) 0 ≢ 0
no_nul bytes from word k bits lt clear is = absurd (omega (arith, (bits k lt).1 is))

-- a bit that is set is one of the 64
set_below : (word k : ℕ) → word < 2 ^ 64 → bit_at word k ≡ 1 → k < 64
set_below word k fits set = elim (cases_lt k 64) [
  | inl lt ↦ lt
  | inr le ↦ absurd (omega (arith, bit_at_above word 64 k fits le, set))
]

-- the lowest bit that is set from a place on tells the first NUL from there on
pub end_by_bits : (bytes : List ℕ) (b : Block) (at : ℕ) → IsBlockOf bytes (at / 64) b
    → b.nul < 2 ^ 64 → 0 < b.nul / 2 ^ (at % 64)
    → IsFirstNul bytes at (at + trailing_zeros w64 (b.nul / 2 ^ (at % 64)))
end_by_bits bytes b at block fits some =
    let low = at % 64 in
    let bits = b.nul / 2 ^ low in
    let t = trailing_zeros w64 bits in
    let first = bit_at-trailing_zeros w64 bits some (omega (arith, div-le_self b.nul (2 ^ low))) in
    let set : bit_at b.nul (low + t) ≡ 1 = sym (bit_behind b.nul low t) ∙ first.1 in
    let lt : low + t < 64 = set_below b.nul (low + t) fits set in
    let here : 64 * (at / 64) + (low + t) ≡ at + t = omega arith in
    record {
      inside = omega (arith, block.whole);
      none_before = λ k le l.
          let same : 64 * (at / 64) + (low + (k - at)) ≡ k = omega arith in
          let clear : bit_at b.nul (low + (k - at)) ≡ 0 =
          sym (bit_behind b.nul low (k - at)) ∙ first.2 (k - at) (omega arith) in
          λ is. no_nul bytes (64 * (at / 64)) b.nul (low + (k - at)) block.nul (omega arith) clear
          (ap (λ i. get_or bytes i 0) same ∙ is);
      there = λ l. (
        omega arith,
        ap (λ i. get_or bytes i 0) (sym here) ∙ (block.nul (low + t) lt).0 set,
      );
    }

-- where none is set, the first NUL stands behind the block
pub end_by_block : (bytes : List ℕ) (b : Block) (at : ℕ) → IsBlockOf bytes (at / 64) b
    → b.nul / 2 ^ (at % 64) ≡ 0 → IsFirstNul bytes at b.behind
end_by_block bytes b at block none =
    let low = at % 64 in
    record {
      inside = block.behind.inside;
      none_before = λ k le l. elim (cases_lt k (64 * (at / 64) + 64)) [
        | inl lt ↦
            let same : 64 * (at / 64) + (low + (k - at)) ≡ k = omega arith in
            let clear : bit_at b.nul (low + (k - at)) ≡ 0 =
            sym (bit_behind b.nul low (k - at)) ∙ ap (λ n. bit_at n (k - at)) none
            ∙ bit_at-zero (k - at) in
            (λ is. no_nul bytes (64 * (at / 64)) b.nul (low + (k - at)) block.nul (omega arith)
            clear (ap (λ i. get_or bytes i 0) same ∙ is))
        | inr ge ↦ block.behind.none_before k ge l
      ];
      there = λ l. (omega (arith, (block.behind.there l).0), (block.behind.there l).1);
    }
