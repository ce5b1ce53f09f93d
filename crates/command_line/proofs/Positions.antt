-- Words at positions.
use Rattle.std.proofs.Common.{◌≡◌, ℕ, ◌<◌, List, length, drop, get_or, map, Some, ap, sym}
use Rattle.std.proofs.lemmas.List.{drop-map, drop_more}
use Rattle.command_line.specs.Words.{first_of}

-- the image of the item at a position is the first of those from there on
pub first_at :
    {A : Type 0} (f : A → List ℕ) (xs : List A) (at : ℕ) (x : A) → at < length xs
    → x ≡ get_or xs at x
    → first_of (drop at (map f xs)) ≡ Some (f x)
first_at {A} f xs at x l e =
    rw (drop-map f at xs, drop_more xs at x l) (ap (λ (y : A). Some (f y)) (sym e))
