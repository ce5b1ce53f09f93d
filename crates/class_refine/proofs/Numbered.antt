-- Numbers of nodes by keys, where equality of keys can be tested.
use Rattle.std.proofs.Common.{◌≡◌, ◌+◌, ℕ, zero, suc, Bool, true, false, List, [], ◌∷◌, ◌++◌}
use Rattle.std.proofs.Common.{Some, length, refl, ap, arith, inl, inr, ◌⊎◌, ⊎_elim}
use Rattle.std.specs.List.{slice_get}
use Rattle.std.proofs.lemmas.Bool.{both_ways}
use Rattle.std.proofs.lemmas.Option.{same_Some, none-some}
use Rattle.c_model.specs.Numberings.{IsNumbering}
use Rattle.c_model.proofs.Taking.{slice_get-push_new}
use Rattle.type_signature.proofs.Taking.{IsNumbered, IsNumbered-empty, IsNumbered-take}
use Rattle.type_signature.proofs.Taking.{IsNumbering-from_numbered}

module _ {K : Type 0} (eq : K → K → Bool) (decides : (a b : K)
    → (eq a b ≡ true → a ≡ b) × (a ≡ b → eq a b ≡ true)) where
  -- a key has a place among others, or none
  pub place_of : (ks : List K) (k : K)
      → ((i : ℕ) × (slice_get ks i ≡ Some k)) ⊎ ((i : ℕ) → slice_get ks i ≡ Some k → ⊥)
  place_of [] k = inr (λ i e. none-some k e)
  place_of (x ∷ xs) k = by (place_of xs k) (eq x k) refl
    where
      absent : eq x k ≡ false → ((i : ℕ) → slice_get xs i ≡ Some k → ⊥) → (i : ℕ)
          → slice_get (x ∷ xs) i ≡ Some k → ⊥
      absent n none zero e = both_ways (eq x k) n ((decides x k).1 (same_Some x k e))
      absent n none (suc i) e = none i e

      by : ((i : ℕ) × (slice_get xs i ≡ Some k)) ⊎ ((i : ℕ) → slice_get xs i ≡ Some k → ⊥)
          → (b : Bool) → eq x k ≡ b → ((i : ℕ) × (slice_get (x ∷ xs) i ≡ Some k))
          ⊎ ((i : ℕ) → slice_get (x ∷ xs) i ≡ Some k → ⊥)
      by rest true e = inl (zero, ap (λ z. Some z) ((decides x k).0 e))
      by rest false e = ⊎_elim (λ p. inl (suc p.0, p.1)) (λ none. inr (absent e none)) rest

  numbered : (key : ℕ → K) (n : ℕ) → (v : List ℕ) × (ks : List K) × IsNumbered key n v ks
  numbered key zero = ([], [], IsNumbered-empty key)
  numbered key (suc n) = let e : n + 1 ≡ suc n = omega arith in rw e at (by (numbered key n))
    where
      by : (v : List ℕ) × (ks : List K) × IsNumbered key n v ks
          → (v : List ℕ) × (ks : List K) × IsNumbered key (n + 1) v ks
      by (v, ks, s) = ⊎_elim
          (λ p. (
            v ++ p.0 ∷ [],
            ks,
            IsNumbered-take key n v ks ks p.0 s (record { placed = p.1; kept = inl refl }),
          ))
          (λ none. (
            v ++ length ks ∷ [],
            ks ++ key n ∷ [],
            IsNumbered-take key n v ks (ks ++ key n ∷ []) (length ks) s (record {
              placed = slice_get-push_new ks (key n);
              kept = inr (none, refl);
            }),
          ))
          (place_of ks (key n))

  pub numbering : (key : ℕ → K) (n : ℕ) → (v : List ℕ) × IsNumbering key n v
  numbering key n = let s = numbered key n in (s.0, IsNumbering-from_numbered key n s.0 s.1 s.2)
