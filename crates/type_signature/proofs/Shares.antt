-- Places in shares.
use Rattle.std.proofs.Common.{◌≡◌, ◌<◌, ◌≤◌, ◌+◌, ◌*◌, ◌/◌, ℕ, arith}
use Rattle.std.proofs.Math.Nat.{lt-div-mul-add, div-lt_iff_lt-mul, lt-mul-div-succ, div-mul-le_self}

-- what holds in each share holds at each place
pub share-covers : (count workers size : ℕ) → 0 < workers → size ≡ count / workers + 1
    → (P : ℕ → Type 0) → ((s : ℕ) → s < workers → (x : ℕ) → s * size ≤ x → x < s * size + size
    → x < count → P x) → (x : ℕ) → x < count → P x
share-covers count workers size some is P h x lt =
    let room : 0 < size = omega arith in
    let end : count < workers * (count / workers + 1) = lt-mul-div-succ count some in
    let all : count < workers * size = rw is end in
    let within : x < workers * size = omega arith in
    h (x / size) ((div-lt_iff_lt-mul room).1 within) x (div-mul-le_self x size)
    (lt-div-mul-add room) lt
