-- What the value of each option may be, and what it says.
use Rattle.std.specs.Prelude.{ℕ, ◌-◌, ◌^◌, List, [], ◌∷◌, length, Bool, if◌then◌else◌, Option, None}
use Rattle.std.specs.Prelude.{Some, codes, ◌==◌, ◌&&◌, nat_le}
use Rattle.std.specs.List.{list_any, slice_split}
use Rattle.std.specs.Str.{bytes_eq, all_ascii_digits}
use Rattle.std.specs.Str.Parse.{digits_value}
use Rattle.command_line.specs.declared.job.Format.{Format}
use Rattle.command_line.specs.declared.job.Format.TheVariants.{Dwarf, Btf}

-- 1 to 20 decimal digits and nothing else
abbrev pub is_decimal : List ℕ → Bool
is_decimal v = all_ascii_digits v && nat_le 1 (length v) && nat_le (length v) 20

-- a decimal number between two bounds
abbrev pub number : ℕ → ℕ → List ℕ → Option ℕ
number low high v =
    if is_decimal v && nat_le low (digits_value 10 v) && nat_le (digits_value 10 v) high
    then Some (digits_value 10 v)
    else None

abbrev pub made_number : List ℕ → Option ℕ
made_number = number 0 (2 ^ 64 - 1)

abbrev pub holes : List ℕ → Option ℕ
holes = number 0 (2 ^ 32 - 1)

abbrev pub line : List ℕ → Option ℕ
line = number 1 (2 ^ 32 - 1)

abbrev pub jobs : List ℕ → Option ℕ
jobs = number 1 256

-- the name of a file is not empty
abbrev pub file_name : List ℕ → Option (List ℕ)
file_name [] = None
file_name (b ∷ bs) = Some (b ∷ bs)

-- names between commas, none of them empty
abbrev pub names : List ℕ → Option (List (List ℕ))
names v =
    if list_any (λ name. length name == 0) (slice_split (λ b. b == 44) v) then None
    else Some (slice_split (λ b. b == 44) v)

abbrev pub format : List ℕ → Option Format
format v =
    if bytes_eq v (codes "dwarf") then Some Dwarf
    else (if bytes_eq v (codes "btf") then Some Btf else None)
