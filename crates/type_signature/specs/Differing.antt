-- Lists whose elements all differ.
use Rattle.std.specs.Prelude.{◌≡◌, ℕ, List, Some, slice_get}

-- no element stands at two places
abbrev pub AllDiffer : {A : Type 0} → List A → Type 0
AllDiffer {A} xs = (i j : ℕ) (x : A) → slice_get xs i ≡ Some x → slice_get xs j ≡ Some x → i ≡ j
