-- Where there is no first refusal, nothing is refused.
use Rattle.std.proofs.Common.{◌≡◌, Bool, true, false, List, [], ◌∷◌, ◌++◌, None, Some, refl}
use Rattle.type_attributes.specs.declared.fault.TypeFault.{TypeFault}
use Rattle.type_attributes.specs.Faults.{first_of, noted, least, refuse_if}

once_noted : (f : TypeFault) (fs : List TypeFault) → noted (Some f) fs ≡ None → ⊥
once_noted f [] e = cc
once_noted f (g ∷ fs) e = once_noted (first_of f g) fs e

pub least_none : (fs : List TypeFault) → least fs ≡ None → fs ≡ []
least_none [] e = refl
least_none (f ∷ fs) e = absurd (once_noted f fs e)

pub first_empty : {X : Type 0} (xs ys : List X) → xs ++ ys ≡ [] → xs ≡ []
first_empty [] ys e = refl
first_empty (x ∷ xs) ys e = cc

pub second_empty : {X : Type 0} (xs ys : List X) → xs ++ ys ≡ [] → ys ≡ []
second_empty [] ys e = e
second_empty (x ∷ xs) ys e = cc

pub not_refused : (t : Bool) (f : TypeFault) → refuse_if t f ≡ [] → t ≡ false
not_refused true f e = cc
not_refused false f e = refl
