-- What stands at a place of a list behind another.
use Rattle.std.proofs.Common.{◌≡◌, ◌+◌, ◌<◌, ◌++◌, ◌∷◌, [], ℕ, zero, suc, List, Some, length, refl}
use Rattle.std.proofs.Common.{ap, arith}
use Rattle.std.specs.List.{slice_get}
use Rattle.std.proofs.lemmas.Option.{none-some, same_Some}

pub get-left : {X : Type 0} (xs ys : List X) (k : ℕ) → k < length xs
    → slice_get (xs ++ ys) k ≡ slice_get xs k
get-left [] ys k h = absurd (omega arith)
get-left (x ∷ xs) ys zero h = refl
get-left (x ∷ xs) ys (suc k) h = get-left xs ys k (omega arith)

pub get-right : {X : Type 0} (xs ys : List X) (k m : ℕ) → k ≡ length xs + m
    → slice_get (xs ++ ys) k ≡ slice_get ys m
get-right [] ys k m h = let same : k ≡ m = omega (arith, h) in ap (slice_get ys) same
get-right (x ∷ xs) ys zero m h = absurd (omega arith)
get-right (x ∷ xs) ys (suc k) m h = get-right xs ys k m (omega arith)

pub get-one : {X : Type 0} (x y : X) (m : ℕ) → slice_get (x ∷ []) m ≡ Some y → (m ≡ 0) × (x ≡ y)
get-one x y zero e = (refl, same_Some x y e)
get-one x y (suc m) e = absurd (none-some y e)
