-- Digests of texts by pieces of a section.
use Rattle.std.proofs.Common.{◌≡◌, ℕ, suc, ◌+◌, ◌-◌, ◌<◌, ◌≤◌, ◌==◌, false, List, []}
use Rattle.std.proofs.Common.{◌∷◌, ◌++◌, length, take, drop, get_or, Option, None, Some, refl, sym, ap}
use Rattle.std.proofs.Common.{◌∙◌, arith, inl, inr}
use Rattle.std.specs.Option.{option_map}
use Rattle.std.proofs.lemmas.Bool.{cases_lt, eq-eqb, eqb-true, ne_eqb}
use Rattle.std.proofs.lemmas.List.{drop-drop, drop-take, get_or-take, take-append-drop}
use Rattle.std.proofs.lemmas.List.{take-take, take_all, length-take}
use Rattle.memchr.specs.Find.{IsFirstByte, is_byte}
use Rattle.dw_base.specs.Texts.{text_from, text_of}
use Rattle.dw_base.specs.Names.{digest_before, digest_of}
use Rattle.dw_base.specs.Ends.{IsFirstNul, IsRestAt}
use Rattle.dw_base.proofs.Digests.{digest_joined}
use Rattle.dw_base.proofs.FirstNul.{text_up_to}
use Rattle.dw_base.proofs.Terminated.{text_found}

same_text : (o : Option (List ℕ)) → o ≡ option_map (λ (u : List ℕ). [] ++ u) o
same_text None = refl
same_text (Some u) = refl

one_more : (x : ℕ) (xs : List ℕ) (o : Option (List ℕ))
    → option_map (λ (u : List ℕ). x ∷ u) (option_map (λ (u : List ℕ). xs ++ u) o)
    ≡ option_map (λ (u : List ℕ). (x ∷ xs) ++ u) o
one_more x xs None = refl
one_more x xs (Some u) = refl

-- a text that begins with bytes of which none is NUL
text_joined : (xs ys : List ℕ) → ((k : ℕ) → k < length xs → get_or xs k 0 ≡ 0 → ⊥)
    → text_from (xs ++ ys) ≡ option_map (λ (u : List ℕ). xs ++ u) (text_from ys)
unfolding text_from
text_joined [] ys none = same_text (text_from ys)
text_joined (x ∷ xs) ys none =
    let t : (x == 0) ≡ false = ne_eqb x 0 (none 0 (omega arith)) in
    rw (t, text_joined xs ys (λ k l. none (suc k) (omega arith))) (one_more x xs (text_from ys))

-- a piece as long as there are bytes
pub whole_piece : (xs : List ℕ) (n : ℕ) → n ≤ 4096 → (n < 4096 → length xs ≤ n)
    → take n xs ≡ take 4096 xs
whole_piece xs n le short = elim (cases_lt n 4096) [
  | inl lt ↦ take_all n xs (short lt) ∙ sym (take_all 4096 xs (omega (arith, short lt)))
  | inr ge ↦ let same : n ≡ 4096 = omega arith in ap (λ m. take m xs) same
]

-- the text at a place, where a piece without a NUL stands before it
pub rest_before : (bytes piece : List ℕ) (at behind : ℕ) → piece ≡ take 4096 (drop at bytes)
    → ((k : ℕ) → k < length piece → get_or piece k 0 ≡ 0 → ⊥) → IsRestAt bytes (at + 4096) behind
    → IsRestAt bytes at (digest_before behind piece)
unfolding text_of
rest_before bytes piece at behind is none rest t e =
    let tail = drop (at + 4096) bytes in
    let joined : piece ++ tail ≡ drop at bytes =
    ap (λ p. p ++ tail) is ∙ ap (λ q. take 4096 (drop at bytes) ++ q) (sym (drop-drop 4096 at bytes))
    ∙ take-append-drop 4096 (drop at bytes) in
    by (text_from tail) refl
    (sym (text_joined piece tail none) ∙ ap text_from joined ∙ e)
  where
    by : (o : Option (List ℕ)) → text_from (drop (at + 4096) bytes) ≡ o
        → option_map (λ (u : List ℕ). piece ++ u) o ≡ Some t
        → digest_before behind piece ≡ digest_of t
    by None q f = cc
    by (Some u) q f =
        let same : piece ++ u ≡ t = cc in
        ap (λ d. digest_before d piece) (rest u q) ∙ sym (digest_joined piece u 0)
        ∙ ap digest_of same

-- no byte of a piece is NUL
pub none_found : (piece : List ℕ) (found : Option ℕ) → IsFirstByte (is_byte 0) piece found
    → found ≡ None → (k : ℕ) → k < length piece → get_or piece k 0 ≡ 0 → ⊥
none_found piece (Some n) first is k lt nul = absurd (cc)
none_found piece None first is k lt nul =
    first k (omega arith) lt (eq-eqb (get_or piece k 0) 0 nul)

-- the text that ends in a piece
pub text_in_piece : (bytes piece : List ℕ) (at n nul : ℕ) (found : Option ℕ)
    → piece ≡ take n (drop at bytes) → IsFirstByte (is_byte 0) piece found → found ≡ Some nul
    → text_of bytes at ≡ Some (take nul piece)
unfolding text_of
text_in_piece bytes piece at n nul None is first e = absurd (cc)
text_in_piece bytes piece at n nul (Some k) is first e =
    let same : k ≡ nul = cc in
    let xs = drop at bytes in
    let long = ap (λ (p : List ℕ). length p) is ∙ length-take n xs in
    let low : k < n = omega (arith, long, first.0.high) in
    let byte : (j : ℕ) → j < n → get_or xs j 0 ≡ get_or piece j 0 = λ j l.
    sym (ap (λ (p : List ℕ). get_or p j 0) is ∙ get_or-take n xs j 0 l) in
    text_found xs k (omega (arith, long, first.0.high))
    (byte k low ∙ eqb-true (get_or piece k 0) 0 first.1)
    (λ j l zero. first.0.before j (omega arith) l (eq-eqb (get_or piece j 0) 0
    (sym (byte j (omega arith)) ∙ zero)))
    ∙ ap (λ (t : List ℕ). Some t) (sym (take-take k n xs (omega arith))
    ∙ ap (take k) (sym is) ∙ ap (λ m. take m piece) same)

-- the digest of a long text, by that of its end
pub digest_of_long : (bytes : List ℕ) (at p end rest : ℕ) → IsFirstNul bytes at end
    → end < length bytes → at ≤ p → p ≤ end → IsRestAt bytes p rest
    → digest_before rest (take (p - at) (take (end - at) (drop at bytes)))
    ≡ digest_of (take (end - at) (drop at bytes))
digest_of_long bytes at p end rest first lt le high is =
    let text = take (end - at) (drop at bytes) in
    let tail = take (end - p) (drop p bytes) in
    let ends : IsFirstNul bytes p end = record {
      inside = first.inside;
      none_before = λ k l h. first.none_before k (omega arith) h;
      there = λ l. (high, (first.there l).1);
    } in
    let parts : end - at ≡ (p - at) + (end - p) = omega arith in
    let back : at + (p - at) ≡ p = omega arith in
    let cut : drop (p - at) text ≡ tail =
    ap (λ m. drop (p - at) (take m (drop at bytes))) parts
    ∙ drop-take (p - at) (end - p) (drop at bytes)
    ∙ ap (take (end - p)) (drop-drop (p - at) at bytes ∙ ap (λ m. drop m bytes) back) in
    ap (λ d. digest_before d (take (p - at) text)) (is tail (text_up_to bytes p end ends lt))
    ∙ sym (digest_joined (take (p - at) text) tail 0)
    ∙ ap digest_of (ap (λ q. take (p - at) text ++ q) (sym cut) ∙ take-append-drop (p - at) text)
