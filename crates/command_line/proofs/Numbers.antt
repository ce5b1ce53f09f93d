-- Numbers as `parse` reads them.
use Rattle.std.proofs.Common.{◌≡◌, ℕ, ◌^◌, ◌<◌, ◌≤◌, List, length, Bool, true, false, Some, None}
use Rattle.std.proofs.Common.{Result, Err, refl, arith, rules, leb, ⊎_elim}
use Rattle.std.specs.Prelude.{if◌then◌else◌, ◌&&◌}
use Rattle.std.proofs.lemmas.Bool.{cases_lt}
use Rattle.std.proofs.lemmas.Bool.Decides.{nat_tests}
use Rattle.std.proofs.lemmas.Str.Parse.{IsNumeralModel, numerals_by_value, tells_all_ascii_digits}
use Rattle.std.proofs.lemmas.Str.Parse.{parse_digits}
use Rattle.std.specs.Str.{all_ascii_digits}
use Rattle.std.specs.Str.Parse.{digits_value, ParsesUnsigned}
use Rattle.std.specs.Result.{OkIff}
use Rattle.command_line.specs.Values.{is_decimal, number}

own : IsNumeralModel (λ ds. all_ascii_digits ds ≡ true) (digits_value 10)
own = numerals_by_value (λ ds. all_ascii_digits ds ≡ true) tells_all_ascii_digits

all_digits : (v : List ℕ) → is_decimal v ≡ true → all_ascii_digits v ≡ true
all_digits v h = search (rules, nat_tests)

has_digit : (v : List ℕ) → is_decimal v ≡ true → 0 < length v
has_digit v h = grind (arith, nat_tests)

none_of : (b : Bool) (n : ℕ) → None ≡ (if (true && b) && false then Some n else None)
none_of true n = refl
none_of false n = refl

-- what is not read lies past 64 bits
pub number_not_read :
    (E : Type 0) (low high : ℕ) (v : List ℕ) (r : Result ℕ E) (e : E) → is_decimal v ≡ true
    → ParsesUnsigned 64 10 v r → r ≡ Err e
    → high < 2 ^ 64 → None ≡ number low high v
number_not_read E low high v r e h p is m =
    let no : OkIff {T = ℕ} {E = E} (Err e) ((0 < length v) × (digits_value 10 v < 2 ^ 64))
    (digits_value 10 v) =
    rw is at (parse_digits own 64 v r p (all_digits v h)) in
    let some : 0 < length v = has_digit v h in
    let high_is : leb (digits_value 10 v) high ≡ false =
    ⊎_elim (λ (l : digits_value 10 v < 2 ^ 64). absurd (no (some, l)))
    (λ (l : 2 ^ 64 ≤ digits_value 10 v). grind (arith, nat_tests))
    (cases_lt (digits_value 10 v) (2 ^ 64)) in
    rw (h, high_is) (none_of (leb low (digits_value 10 v)) (digits_value 10 v))
