-- LEB128 numbers (DWARF 5, section 7.6), as sums over all their bytes.
use Rattle.std.specs.Prelude.{ℕ, suc, ◌+◌, ◌-◌, ◌*◌, ◌^◌, ◌%◌, ℤ, pos, negsuc, ◌-ℤ◌, Bool, nat_lt}
use Rattle.std.specs.Prelude.{nat_le, List, [], ◌∷◌, length, drop, get_or, Option, None, Some}
use Rattle.std.specs.Prelude.{Result, Ok, Err, if◌then◌else◌}
use Rattle.std.specs.Option.{option_map}
use Rattle.dw_base.specs.declared.leb128.LebFault.{LebFault}
use Rattle.dw_base.specs.declared.leb128.LebFault.TheVariants.{Truncated, TooWide}

-- the bytes of the number that a list begins with: up to the first byte with bit 7 clear, and that
-- one
unfoldable pub leb_bytes : List ℕ → Option (List ℕ)
leb_bytes [] = None
leb_bytes (b ∷ bs) =
    if nat_lt b 128 then Some (b ∷ []) else option_map (λ (rest : List ℕ). b ∷ rest) (leb_bytes bs)

-- byte i mod 128 times 128^(k + i), summed
unfoldable pub sum_from : ℕ → List ℕ → ℕ
sum_from k [] = 0
sum_from k (b ∷ bs) = b % 128 * 128 ^ k + sum_from (suc k) bs

-- the unsigned value: byte i mod 128 times 128^i, summed
abbrev pub unsigned_of : List ℕ → ℕ
unsigned_of bytes = sum_from 0 bytes

-- bit 6 of the last byte is set
abbrev pub is_negative : List ℕ → Bool
is_negative bytes = nat_le 64 (get_or bytes (length bytes - 1) 0 % 128)

-- the signed value: that sum, less 128^n for n bytes whose last has bit 6 set
abbrev pub signed_of : List ℕ → ℤ
signed_of bytes = if is_negative bytes then pos (unsigned_of bytes) -ℤ pos (128 ^ length bytes)
    else pos (unsigned_of bytes)

-- from -2^63 to 2^63 - 1
abbrev pub fits_i64 : ℤ → Bool
fits_i64 (pos n) = nat_lt n (2 ^ 63)
fits_i64 (negsuc n) = nat_lt n (2 ^ 63)

-- a number that fits, and the place after it
abbrev pub unsigned_at : ℕ → Option (List ℕ) → Result (ℕ × ℕ) LebFault
unsigned_at at None = Err Truncated
unsigned_at at (Some bytes) = if nat_lt (unsigned_of bytes) (2 ^ 64)
    then Ok (unsigned_of bytes, at + length bytes) else Err TooWide

abbrev pub signed_at : ℕ → Option (List ℕ) → Result (ℤ × ℕ) LebFault
signed_at at None = Err Truncated
signed_at at (Some bytes) =
    if fits_i64 (signed_of bytes) then Ok (signed_of bytes, at + length bytes) else Err TooWide

-- the unsigned number at a place
unfoldable pub uleb_of : List ℕ → ℕ → Result (ℕ × ℕ) LebFault
uleb_of bytes at = unsigned_at at (leb_bytes (drop at bytes))

-- the signed number at a place
unfoldable pub sleb_of : List ℕ → ℕ → Result (ℤ × ℕ) LebFault
sleb_of bytes at = signed_at at (leb_bytes (drop at bytes))
