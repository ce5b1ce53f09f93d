-- What is kept of the lengths of an array's dimensions while they are read.
use Rattle.std.specs.Prelude.{ℕ, ◌*◌, ◌^◌, min, nat_lt, ◌||◌, ◌&&◌, not, Bool, true, false, List}
use Rattle.std.specs.Prelude.{[], ◌∷◌, Option, if◌then◌else◌}
use Rattle.c_types.specs.Arrays.{is_long, or_zero}
use Rattle.c_types.specs.declared.arrays.Lengths.{Lengths}

-- before the first
abbrev pub start : Lengths
start = record { product = 1; any = false; long = false }

-- and after some more
abbrev pub extended : Lengths → List (Option ℕ) → Lengths
extended l [] = l
extended l (o ∷ os) = extended (record {
  product = min (l.product * or_zero o) (2 ^ 32);
  any = true;
  long = l.long || is_long o;
}) os

abbrev pub is_too_long : Lengths → Bool
is_too_long l = l.long || (l.any && not (nat_lt l.product (2 ^ 32)))

abbrev pub elements_from : Lengths → ℕ
elements_from l = if is_too_long l then 0 else (if l.any then l.product else 0)
