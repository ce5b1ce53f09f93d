use Rattle.std.proofs.Common.{ℤ, Some, ap, arith}
use Rattle.std.proofs.lemmas.Int.{ints}
use Rattle.type_attributes.proofs.positions.first_in_little.Goals as goal

pub returns-in-Some-Some-Some-Some : goal.returns-in-Some-Some-Some-Some
returns-in-Some-Some-Some-Some c =
    let some = c.in-Some-Some-Some-Some in
    rw (some.is-0, some.is-1, some.is-2, some.is-3)
    (ap (λ (z : ℤ). Some z)
    (omega (
      arith,
      ints,
      c.storage_end.ensures.value,
      c.storage_end.ensures.low,
      c.storage_end.ensures.high,
      c.to_integer.ensures.value,
      c.to_integer.ensures.low,
      c.to_integer.ensures.high,
      c.to_integer-in-Some-Some-Some-Some.ensures.value,
      c.to_integer-in-Some-Some-Some-Some.ensures.low,
      c.to_integer-in-Some-Some-Some-Some.ensures.high,
    )))
