-- What a loop over digits keeps of their sum.
use Rattle.std.specs.Prelude.{ℕ, ◌≡◌, ◌+◌, ◌-◌, ◌*◌, ◌^◌, ◌%◌, ◌<◌, ◌≤◌, ◌==◌}
use Rattle.dw_base.specs.declared.leb128.Sum.{Sum}

-- the low part fits below its shift, which is a number of digits or past 63
pub record IsEven (low shift : ℕ) : Type 0 where
  pub fits : low < 2 ^ 63
  pub below : shift ≤ 63 → low < 2 ^ shift
  pub steps : shift % 7 ≡ 0
  pub top : shift ≤ 70

-- `high` is the sum of the digits from the ninth on, by 2^63
pub record Sums (s : Sum) (n total : ℕ) : Type 0 where
  pub high : ℕ
  pub is : total ≡ s.low + 2 ^ 63 * high
  pub few : high < 128 ^ (n - 9)
  pub count : (s.shift ≤ 63) → s.shift ≡ 7 * n
  pub past : (63 < s.shift) → 10 ≤ n
  pub zeros : s.zeros ≡ (high == 0)
  pub one : s.one ≡ (high == 1)
  pub full : s.full ≡ (high + 1 == 128 ^ (n - 9))
