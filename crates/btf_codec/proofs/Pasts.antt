-- Words at places, one by one.
use Rattle.std.proofs.Common.{◌≡◌, ℕ, zero, suc, ◌+◌, ◌*◌, ◌-◌, ◌<◌, ◌≤◌, nat_le, true, false, List}
use Rattle.std.proofs.Common.{[], ◌∷◌, ◌++◌, map, None, Some, refl, sym, ap, ◌∙◌, arith}
use Rattle.std.proofs.lemmas.List.{append_assoc, map-append}
use Rattle.btf_codec.specs.Reading.{first_past, places, ref_of, words_at}
use Rattle.c_model.specs.declared.graph.Ref.{Ref}

-- the places from one on
pub places_from : (at width n i : ℕ) → i < n → places (at + width * i) width (n - i)
    ≡ (at + width * i) ∷ places (at + width * (i + 1)) width (n - (i + 1))
unfolding places
places_from at width n i lt =
    let e : n - i ≡ suc (n - (i + 1)) = omega arith in
    let f : at + width * i + width ≡ at + width * (i + 1) = omega arith in
    rw e (ap (λ (a : ℕ). (at + width * i) ∷ places a width (n - (i + 1))) f)

pub places_over : (at width n i : ℕ) → n ≤ i → places (at + width * i) width (n - i) ≡ []
unfolding places
places_over at width n i le = let e : n - i ≡ 0 = omega arith in rw e refl

pub past_found : (w : ℕ → ℕ) (limit at width n i x : ℕ) → i < n → x ≡ w (at + width * i)
    → nat_le limit x ≡ true
    → first_past limit (words_at w (at + width * i) width (n - i)) ≡ first_past limit
    (words_at w at width n) → Some x ≡ first_past limit (words_at w at width n)
past_found w limit at width n i x lt is over so_far =
    let t : nat_le limit (w (at + width * i)) ≡ true =
    ap (λ (y : ℕ). nat_le limit y) (sym is) ∙ over in
    ap (λ (y : ℕ). Some y) is
    ∙ sym (ap (λ (ps : List ℕ). first_past limit (map w ps)) (places_from at width n i lt)
    ∙ rw t refl)
    ∙ so_far

pub past_on : (w : ℕ → ℕ) (limit at width n i x : ℕ) → i < n → x ≡ w (at + width * i)
    → nat_le limit x ≡ false
    → first_past limit (words_at w (at + width * i) width (n - i))
    ≡ first_past limit (words_at w at width n)
    → first_past limit (words_at w (at + width * (i + 1)) width (n - (i + 1)))
    ≡ first_past limit (words_at w at width n)
past_on w limit at width n i x lt is under so_far =
    let t : nat_le limit (w (at + width * i)) ≡ false =
    ap (λ (y : ℕ). nat_le limit y) (sym is) ∙ under in
    sym (ap (λ (ps : List ℕ). first_past limit (map w ps)) (places_from at width n i lt)
    ∙ rw t refl)
    ∙ so_far

pub past_none : (w : ℕ → ℕ) (limit at width n i : ℕ) → n ≤ i
    → first_past limit (words_at w (at + width * i) width (n - i))
    ≡ first_past limit (words_at w at width n) → None ≡ first_past limit (words_at w at width n)
past_none w limit at width n i le so_far =
    sym (ap (λ (ps : List ℕ). first_past limit (map w ps)) (places_over at width n i le)) ∙ so_far

-- one place more, at the end
pub places_more : (at width n : ℕ)
    → places at width (n + 1) ≡ places at width n ++ (at + width * n) ∷ []
unfolding places
places_more at width zero = let e : at + width * 0 ≡ at = omega arith in rw e refl
places_more at width (suc n) =
    let e : at + width + width * n ≡ at + width * suc n = omega arith in
    let s : suc n + 1 ≡ suc (n + 1) = omega arith in
    rw s (ap (λ (ps : List ℕ). at ∷ ps) (places_more (at + width) width n
    ∙ ap (λ (a : ℕ). places (at + width) width n ++ a ∷ []) e))

-- what is made of the places so far, and of one more
pub made_more : {X : Type 0} (f : ℕ → X) (at width i : ℕ) (old new : List X) (x : X)
    → old ≡ map f (places at width i) → new ≡ old ++ x ∷ [] → x ≡ f (at + width * i)
    → new ≡ map f (places at width (i + 1))
made_more {X} f at width i old new x so_far push is =
    push
    ∙ ap (λ (xs : List X). xs ++ x ∷ []) so_far
    ∙ ap (λ (y : X). map f (places at width i) ++ y ∷ []) is
    ∙ sym (map-append f (places at width i) ((at + width * i) ∷ []))
    ∙ ap (λ (ps : List ℕ). map f ps) (sym (places_more at width i))

-- one reference more
pub refs_more : (w : ℕ → ℕ) (at width i : ℕ) (first old new : List Ref) (r : Ref) → old ≡ first
    ++ map ref_of (words_at w at width i) → new ≡ old ++ r ∷ [] → r ≡ ref_of (w (at + width * i))
    → new ≡ first ++ map ref_of (words_at w at width (i + 1))
refs_more w at width i first old new r so_far push is =
    push
    ∙ ap (λ (xs : List Ref). xs ++ r ∷ []) so_far
    ∙ append_assoc first (map ref_of (words_at w at width i)) (r ∷ [])
    ∙ ap (λ (xs : List Ref). first ++ xs)
    (ap (λ (q : Ref). map ref_of (words_at w at width i) ++ q ∷ []) is
    ∙ sym (map-append ref_of (words_at w at width i) (w (at + width * i) ∷ []))
    ∙ ap (λ (ws : List ℕ). map ref_of ws) (sym (map-append w (places at width i)
    ((at + width * i) ∷ [])) ∙ ap (λ (ps : List ℕ). map w ps) (sym (places_more at width i))))
