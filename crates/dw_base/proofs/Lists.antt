-- The elements of a list: one that is there, and those beside one that is written.
use Rattle.std.proofs.Common.{◌≡◌, ◌<◌, ℕ, zero, suc, List, [], ◌∷◌, None, Some, refl, sym, ap}
use Rattle.std.proofs.Common.{length, arith}
use Rattle.std.specs.List.{slice_get}
use Rattle.std.proofs.Math.ListN.{set}
use Rattle.std.proofs.lemmas.Option.{none-some}

pub slice_get_none : {X : Type 0} (xs : List X) (i : ℕ) → i < length xs → slice_get xs i ≡ None → ⊥
slice_get_none [] i lt e = omega arith
slice_get_none (x ∷ xs) zero lt e = none-some x (sym e)
slice_get_none (x ∷ xs) (suc i) lt e = slice_get_none xs i (omega arith) e

-- an element that is written
pub slice_get_set : {X : Type 0} (xs : List X) (i : ℕ) (y : X) → i < length xs
    → slice_get (set xs i y) i ≡ Some y
slice_get_set [] i y lt = absurd (omega arith)
slice_get_set (x ∷ xs) zero y lt = refl
slice_get_set (x ∷ xs) (suc i) y lt = slice_get_set xs i y (omega arith)

-- the others stay
pub slice_get_set_other : {X : Type 0} (xs : List X) (i j : ℕ) (y : X) → (j ≡ i → ⊥)
    → slice_get (set xs i y) j ≡ slice_get xs j
slice_get_set_other [] i j y ne = refl
slice_get_set_other (x ∷ xs) zero zero y ne = absurd (ne refl)
slice_get_set_other (x ∷ xs) zero (suc j) y ne = refl
slice_get_set_other (x ∷ xs) (suc i) zero y ne = refl
slice_get_set_other (x ∷ xs) (suc i) (suc j) y ne =
    slice_get_set_other xs i j y (λ e. ne (ap suc e))
