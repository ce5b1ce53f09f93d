-- Items that follow one another, up to the first step that fails.
use Rattle.std.proofs.Common.{◌≡◌, ℕ, zero, suc, ◌+◌, ◌<◌, ◌≤◌, List, [], ◌∷◌, ◌++◌, Option, None}
use Rattle.std.proofs.Common.{Some, Result, Ok, Err, refl, sym, ap, ◌∙◌, append_assoc, arith}
use Rattle.std.proofs.lemmas.List.{append-nil}
use Rattle.dw_base.specs.Collect.{collect, gone_on}

module _ {X F : Type 0} (step : ℕ → List X → Result (Option X × ℕ) F) (cut : ℕ → F) where
  -- items that follow one another, and the place after them
  abbrev pub Follows : ℕ → List X → List X → ℕ → Type 0
  Follows at seen [] mid = at ≡ mid
  Follows at seen (x ∷ xs) mid =
      (next : ℕ) × (step at seen ≡ Ok (Some x, next)) × Follows next (seen ++ x ∷ []) xs mid

  -- some items, and then a step that fails
  abbrev pub Fault : ℕ → List X → F → Type 0
  Fault at seen f =
      (xs : List X) × (mid : ℕ) × Follows at seen xs mid × (step mid (seen ++ xs) ≡ Err f)

  here : (at : ℕ) (seen : List X) (f : F) → step at seen ≡ Err f → Fault at seen f
  here at seen f e = ([], at, refl, ap (λ (xs : List X). step at xs) (append-nil seen) ∙ e)

  same : (a b : F) → ◌≡◌ {A = Result (List X × ℕ) F} (Err a) (Err b) → a ≡ b
  same a b e = cc

  found : (at : ℕ) (seen : List X) (f : F) (r : Result (Option X × ℕ) F) → step at seen ≡ r
      → (go : ℕ → List X → Result (List X × ℕ) F)
      → ((next : ℕ) (more : List X) → at < next → go next more ≡ Err f → Fault next more f)
      → ((next : ℕ) (o : Option X) → step at seen ≡ Ok (o, next) → at < next)
      → gone_on r seen go ≡ Err f → Fault at seen f
  found at seen f (Err g) h go ih goes e = here at seen f (h ∙ ap (λ (g : F). Err g) (same g f e))
  found at seen f (Ok s) h go ih goes e = by s.0 refl e
    where
      by : (o : Option X) → s.0 ≡ o → ◌≡◌ {A = Result (List X × ℕ) F} (elim o
          [ None ↦ Ok (seen, s.1) | Some x ↦ go s.1 (seen ++ x ∷ []) ]) (Err f) → Fault at seen f
      by None k e = cc
      by (Some x) k e =
          let q : step at seen ≡ Ok (Some x, s.1) = h ∙ ap (λ (o : Option X). Ok (o, s.1)) k in
          let i = ih s.1 (seen ++ x ∷ []) (goes s.1 (Some x) q) e in (
            x ∷ i.0,
            i.1,
            (s.1, q, i.2),
            ap (λ (xs : List X). step i.1 xs) (sym (append_assoc seen (x ∷ []) i.0)) ∙ i.3,
          )

  -- where each step takes something of `size` bytes, and a step past them is cut off, fuel for the
  -- bytes left is enough
  pub first_fault : (size : ℕ) → ((at next : ℕ) (seen : List X) (o : Option X)
      → step at seen ≡ Ok (o, next) → (at < next) × (at < size))
      → ((at : ℕ) (seen : List X) → size ≤ at → step at seen ≡ Err (cut at))
      → (n at : ℕ) (seen : List X) (f : F) → size ≤ at + n → collect step cut n at seen ≡ Err f
      → Fault at seen f
  unfolding collect
  first_fault size goes out zero at seen f fuel e =
      here at seen f (out at seen (omega arith) ∙ ap (λ (g : F). Err g) (same (cut at) f e))
  first_fault size goes out (suc n) at seen f fuel e =
      found at seen f (step at seen) refl (λ (end : ℕ) (more : List X). collect step cut n end more)
      (λ (next : ℕ) (more : List X) (h : at < next) (k : collect step cut n next more ≡ Err f).
      first_fault size goes out n next more f (omega arith) k)
      (λ (next : ℕ) (o : Option X) (q : step at seen ≡ Ok (o, next)). (goes at next seen o q).0) e

  ends : (at mid : ℕ) (seen : List X) (f : F) → at ≡ mid → step mid (seen ++ []) ≡ Err f
      → step at seen ≡ Err f
  ends at mid seen f h e =
      ap (λ (k : ℕ). step k seen) h ∙ ap (λ (xs : List X). step mid xs) (sym (append-nil seen)) ∙ e

  pub fault_first : (size : ℕ) → ((at next : ℕ) (seen : List X) (o : Option X)
      → step at seen ≡ Ok (o, next) → (at < next) × (at < size))
      → ((at : ℕ) (seen : List X) → size ≤ at → step at seen ≡ Err (cut at))
      → (xs : List X) (n at mid : ℕ) (seen : List X) (f : F) → size ≤ at + n → Follows at seen xs
      mid → step mid (seen ++ xs) ≡ Err f → collect step cut n at seen ≡ Err f
  unfolding collect
  fault_first size goes out [] zero at mid seen f fuel h e =
      let q : step at seen ≡ Err f = ends at mid seen f h e in
      cut_is (cut at) f (sym (out at seen (omega arith)) ∙ q)
    where
      cut_is : (a b : F) → ◌≡◌ {A = Result (Option X × ℕ) F} (Err a) (Err b)
          → ◌≡◌ {A = Result (List X × ℕ) F} (Err a) (Err b)
      cut_is a b e = cc
  fault_first size goes out (x ∷ xs) zero at mid seen f fuel h e =
      absurd (omega (arith, (goes at h.0 seen (Some x) h.1).1))
  fault_first size goes out [] (suc n) at mid seen f fuel h e = rw (ends at mid seen f h e) refl
  fault_first size goes out (x ∷ xs) (suc n) at mid seen f fuel h e =
      let g = goes at h.0 seen (Some x) h.1 in
      rw h.1 (fault_first size goes out xs n h.0 mid (seen ++ x ∷ []) f (omega (arith, g.0)) h.2
      (ap (λ (xs : List X). step mid xs) (append_assoc seen (x ∷ []) xs) ∙ e))
