-- Keys that all differ, and one more.
use Rattle.std.proofs.Common.{◌≡◌, ◌<◌, ◌≤◌, ◌+◌, ℕ, List, [], ◌∷◌, ◌++◌, Some, length, sym, ◌∙◌}
use Rattle.std.proofs.Common.{ap, arith, ⊎_elim}
use Rattle.std.specs.List.{slice_get}
use Rattle.std.proofs.lemmas.Option.{slice_get_within, none-some}
use Rattle.std.proofs.lemmas.List.{length_push}
use Rattle.std.proofs.lemmas.Bool.{cases_lt}
use Rattle.c_model.specs.Numberings.{TakesKey}
use Rattle.c_model.proofs.Taking.{slice_get-push_old, slice_get-push_new}
use Rattle.type_signature.specs.Differing.{AllDiffer}

pub AllDiffer-empty : {K : Type 0} (keys : List K) → keys ≡ [] → AllDiffer keys
AllDiffer-empty keys e i j x a b = absurd (none-some x (ap (λ ks. slice_get ks i) (sym e) ∙ a))

module _ {K : Type 0} (old : List K) (key : K) (d : AllDiffer old) (absent : (i : ℕ)
    → slice_get old i ≡ Some key → ⊥) where
  at_end : (j : ℕ) (k : K) → slice_get (old ++ key ∷ []) j ≡ Some k → length old ≤ j
      → j ≡ length old
  at_end j k h l =
      let size : length (old ++ key ∷ []) ≡ length old + 1 = length_push old key in
      let w = slice_get_within (old ++ key ∷ []) j k h in
      omega arith

  before : (i : ℕ) (k : K) → slice_get (old ++ key ∷ []) i ≡ Some k → i < length old
      → slice_get old i ≡ Some k
  before i k h l = sym (slice_get-push_old old key i l) ∙ h

  key_at_end : (j : ℕ) (k : K) → slice_get (old ++ key ∷ []) j ≡ Some k → j ≡ length old
      → Some k ≡ Some key
  key_at_end j k h l = sym h ∙ (ap (slice_get (old ++ key ∷ [])) l ∙ slice_get-push_new old key)

  pushed : AllDiffer (old ++ key ∷ [])
  pushed i j k hi hj = ⊎_elim
      (λ li. ⊎_elim (λ lj. d i j k (before i k hi li) (before j k hj lj)) (λ lj. absurd (absent i
      (before i k hi li ∙ key_at_end j k hj (at_end j k hj lj)))) (cases_lt j (length old)))
      (λ li.
      ⊎_elim (λ lj. absurd (absent j (before j k hj lj ∙ key_at_end i k hi (at_end i k hi li))))
      (λ lj. at_end i k hi li ∙ sym (at_end j k hj lj)) (cases_lt j (length old)))
      (cases_lt i (length old))

pub AllDiffer-take : {K : Type 0} (old new : List K) (key : K) (r : ℕ) → AllDiffer old
    → TakesKey old key new r → AllDiffer new
AllDiffer-take old new key r d t = ⊎_elim (λ e. rw e d) (λ w. rw w.1 (pushed old key d w.0)) t.kept
