-- The first NUL from a place on: how it is found, and the text up to it.
use Rattle.std.proofs.Common.{◌≡◌, ℕ, ◌+◌, ◌-◌, ◌<◌, ◌≤◌, List, length, take, drop, get_or, ap}
use Rattle.std.proofs.Common.{[], ◌∷◌, ◌++◌}
use Rattle.std.proofs.Common.{Option, None, Some, inl, inr, sym, subst, ◌∙◌, arith}
use Rattle.std.proofs.lemmas.Bool.{eq-eqb, eqb-true, cases_lt}
use Rattle.std.proofs.lemmas.List.{get_or-drop, length-drop}
use Rattle.std.proofs.lemmas.List.{get_or_append_left, get_or_push, length_push}
use Rattle.memchr.specs.Find.{IsFirstByte, is_byte}
use Rattle.dw_base.specs.Texts.{text_of}
use Rattle.dw_base.specs.Ends.{IsFirstNul, IsBlockOf, AreBlocksOf}
use Rattle.dw_base.specs.declared.text_ends.Block.{Block}
use Rattle.dw_base.proofs.Terminated.{text_found, text_cut}

-- a byte of the rest, seen in the bytes
byte_behind : (bytes rest : List ℕ) (from k : ℕ) → rest ≡ drop from bytes → from ≤ k
    → get_or rest (k - from) 0 ≡ get_or bytes k 0
byte_behind bytes rest from k e le =
    let place : from + (k - from) ≡ k = omega arith in
    ap (λ r. get_or r (k - from) 0) e ∙ get_or-drop from bytes (k - from) 0
    ∙ ap (λ i. get_or bytes i 0) place

pub nul_found : (bytes rest : List ℕ) (from after : ℕ) (found : Option ℕ) → rest ≡ drop from bytes
    → IsFirstByte (is_byte 0) rest found → found ≡ Some after → IsFirstNul bytes from (from + after)
nul_found bytes rest from after None e first is = absurd (cc)
nul_found bytes rest from after (Some k) e first is =
    let same : k ≡ after = cc in
    let long : length rest ≡ length bytes - from = ap length e ∙ length-drop from bytes in
    record {
      inside = omega (arith, first.0.high, long, same);
      none_before = λ j le lt zero. first.0.before (j - from) (omega arith) (omega (arith, same))
          (eq-eqb (get_or rest (j - from) 0) 0 (byte_behind bytes rest from j e le ∙ zero));
      there = λ lt. (
        omega arith,
        ap (λ i. get_or bytes (from + i) 0) (sym same) ∙ sym (get_or-drop from bytes k 0)
            ∙ ap (λ r. get_or r k 0) (sym e) ∙ eqb-true (get_or rest k 0) 0 first.1,
      );
    }

pub nul_missing : (bytes rest : List ℕ) (from : ℕ) (found : Option ℕ) → rest ≡ drop from bytes
    → IsFirstByte (is_byte 0) rest found → found ≡ None → IsFirstNul bytes from (length bytes)
nul_missing bytes rest from (Some k) e first is = absurd (cc)
nul_missing bytes rest from None e first is =
    let long : length rest ≡ length bytes - from = ap length e ∙ length-drop from bytes in
    record {
      inside = omega arith;
      none_before = λ j le lt zero. first (j - from) (omega arith) (omega (arith, long))
          (eq-eqb (get_or rest (j - from) 0) 0 (byte_behind bytes rest from j e le ∙ zero));
      there = λ lt. absurd (omega arith);
    }

-- the text that ends with the first NUL
pub text_up_to : (bytes : List ℕ) (at end : ℕ) → IsFirstNul bytes at end → end < length bytes
    → text_of bytes at ≡ Some (take (end - at) (drop at bytes))
unfolding text_of
text_up_to bytes at end first lt =
    let there = first.there lt in
    let le = there.0 in
    let place : at + (end - at) ≡ end = omega arith in
    text_found (drop at bytes) (end - at) (omega (arith, length-drop at bytes))
    (get_or-drop at bytes (end - at) 0 ∙ ap (λ i. get_or bytes i 0) place ∙ there.1)
    (λ k l zero. first.none_before (at + k) (omega arith) (omega arith)
    (sym (get_or-drop at bytes k 0) ∙ zero))

-- there is none where there is no NUL
pub no_text : (bytes : List ℕ) (at : ℕ) → IsFirstNul bytes at (length bytes)
    → text_of bytes at ≡ None
unfolding text_of
no_text bytes at first = text_cut (drop at bytes) (λ k l zero. first.none_before (at + k)
    (omega arith) (omega (arith, length-drop at bytes)) (sym (get_or-drop at bytes k 0) ∙ zero))

-- one more block
pub one_block_more : (bytes : List ℕ) (blocks : List Block) (b : Block) → AreBlocksOf bytes blocks
    → IsBlockOf bytes (length blocks) b → AreBlocksOf bytes (blocks ++ b ∷ [])
one_block_more bytes blocks b are is number d lt = elim (cases_lt number (length blocks)) [
  | inl low ↦ subst (λ x. IsBlockOf bytes number x)
      (sym (get_or_append_left blocks (b ∷ []) d number low)) (are number d low)
  | inr high ↦
      let last : length blocks ≡ number = omega (arith, length_push blocks b) in
      subst (λ x. IsBlockOf bytes number x) (sym (get_or_push blocks b d number last))
      (subst (λ k. IsBlockOf bytes k b) last is)
]
