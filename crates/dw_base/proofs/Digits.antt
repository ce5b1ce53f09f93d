-- Reading digits one after the other.
use Rattle.std.proofs.Common.{◌≡◌, ℕ, zero, suc, ◌+◌, ◌-◌, ◌*◌, ◌%◌, ◌^◌, ◌<◌, ◌≤◌, Bool, true}
use Rattle.std.proofs.Common.{false, List, [], ◌∷◌, ◌++◌, length, take, drop, get_or, Some, None}
use Rattle.std.proofs.Common.{if◌then◌else◌, nat_lt, nat_le, ℤ, pos, ◌-ℤ◌, Result, Ok, Err, refl}
use Rattle.std.proofs.Common.{sym, ap, ◌∙◌, arith, below_more}
use Rattle.std.proofs.Math.Nat.{mod-eq_of_lt}
use Rattle.std.proofs.lemmas.List.{drop_more}
use Rattle.std.proofs.lemmas.List.{take_more, get_or-drop, get_or-take, length-drop, length-take-le}
use Rattle.std.proofs.lemmas.Bool.{lt-ltb, le-ltb}
use Rattle.dw_base.specs.Leb128.{leb_bytes, sum_from, unsigned_of, is_negative, fits_i64, uleb_of}
use Rattle.dw_base.specs.Leb128.{sleb_of, unsigned_at}
use Rattle.dw_base.specs.declared.leb128.LebFault.{LebFault}
use Rattle.dw_base.specs.declared.leb128.LebFault.TheVariants.{TooWide}
use Rattle.dw_base.specs.Sums.{Sums, IsEven}
use Rattle.dw_base.specs.declared.leb128.Sum.{Sum}

pub sum_from-push : (k : ℕ) (xs : List ℕ) (b : ℕ)
    → sum_from k (xs ++ b ∷ []) ≡ sum_from k xs + b % 128 * 128 ^ (k + length xs)
unfolding sum_from
sum_from-push k [] b = let e : k + 0 ≡ k = omega arith in rw e (omega arith)
sum_from-push k (x ∷ xs) b =
    let e : k + suc (length xs) ≡ suc k + length xs = omega arith in
    rw e (omega (arith, sum_from-push (suc k) xs b))

pub leb_found : (xs : List ℕ) (i : ℕ) → ((k : ℕ) → k < i → 128 ≤ get_or xs k 0) → i < length xs
    → get_or xs i 0 < 128 → leb_bytes xs ≡ Some (take (suc i) xs)
unfolding leb_bytes
leb_found [] i high within low = absurd (omega arith)
leb_found (x ∷ xs) zero high within low = let t : nat_lt x 128 ≡ true =
    lt-ltb x 128 low in rw t refl
leb_found (x ∷ xs) (suc i) high within low =
    let h : 128 ≤ x = high 0 (omega arith) in
    let t : nat_lt x 128 ≡ false = le-ltb x 128 h in
    rw (
      t,
      leb_found xs i (λ (k : ℕ) (lt : k < i). high (suc k) (omega arith)) (omega arith) low,
    ) refl

pub leb_cut : (xs : List ℕ) → ((k : ℕ) → k < length xs → 128 ≤ get_or xs k 0) → leb_bytes xs ≡ None
unfolding leb_bytes
leb_cut [] high = refl
leb_cut (x ∷ xs) high =
    let t : nat_lt x 128 ≡ false = le-ltb x 128 (high 0 (omega arith)) in
    rw (t, leb_cut xs (λ (k : ℕ) (lt : k < length xs). high (suc k) (omega arith))) refl

-- the bytes from `at` to before `i` are digits with bit 7 set, and this is their sum
pub record IsReading (bytes : List ℕ) (at i : ℕ) (sum : Sum) : Type 0 where
  pub even : IsEven sum.low sum.shift
  pub sums : Sums sum (i - at) (sum_from 0 (take (i - at) (drop at bytes)))
  pub high : (k : ℕ) → k < i - at → 128 ≤ get_or (drop at bytes) k 0

abbrev pub Adds : Sum → Sum → ℕ → Type 0
Adds old new digit = (n total : ℕ) → Sums old n total → Sums new (n + 1) (total + digit * 128 ^ n)

pub adds_one : (bytes : List ℕ) (at i b : ℕ) (old new : Sum) → at ≤ i → i < length bytes
    → b ≡ get_or bytes i 0 → IsReading bytes at i old → Adds old new (b % 128)
    → Sums new (i + 1 - at) (sum_from 0 (take (i + 1 - at) (drop at bytes)))
adds_one bytes at i b old new le lt is r adds =
    let rest = drop at bytes in
    let n : ℕ = i - at in
    let m : i + 1 - at ≡ (i - at) + 1 = omega arith in
    let long : i - at < length (drop at bytes) = omega (arith, length-drop at bytes) in
    let x : get_or (drop at bytes) (i - at) 0 ≡ get_or bytes (at + (i - at)) 0 =
    get_or-drop at bytes (i - at) 0 in
    let j : at + (i - at) ≡ i = omega arith in
    let y : get_or (drop at bytes) (i - at) 0 ≡ b =
    x ∙ ap (λ (k : ℕ). get_or bytes k 0) j ∙ sym is in
    let t : take ((i - at) + 1) (drop at bytes) ≡ take (i - at) (drop at bytes) ++ b ∷ [] =
    take_more (drop at bytes) (i - at) 0 long
    ∙ ap (λ (z : ℕ). take (i - at) (drop at bytes) ++ z ∷ []) y in
    let w : length (take (i - at) (drop at bytes)) ≡ i - at =
    length-take-le (i - at) (drop at bytes) (omega arith) in
    let s : sum_from 0 (take ((i - at) + 1) (drop at bytes))
    ≡ sum_from 0 (take (i - at) (drop at bytes)) + b % 128 * 128 ^ (i - at) =
    ap (sum_from 0) t ∙ sum_from-push 0 (take (i - at) (drop at bytes)) b ∙ ap
    (λ (z : ℕ). sum_from 0 (take (i - at) (drop at bytes)) + b % 128 * 128 ^ z) (omega arith) in
    rw (m, s) (adds (i - at) (sum_from 0 (take (i - at) (drop at bytes))) r.sums)

pub byte_there : (bytes : List ℕ) (at i b : ℕ) → at ≤ i → b ≡ get_or bytes i 0
    → get_or (drop at bytes) (i - at) 0 ≡ b
byte_there bytes at i b le is =
    let j : at + (i - at) ≡ i = omega arith in
    get_or-drop at bytes (i - at) 0 ∙ ap (λ (k : ℕ). get_or bytes k 0) j ∙ sym is

pub reads_on : (bytes : List ℕ) (at i b : ℕ) (old new : Sum) → at ≤ i → i < length bytes
    → b ≡ get_or bytes i 0 → 128 ≤ b → IsReading bytes at i old → IsEven new.low new.shift
    → Adds old new (b % 128)
    → IsReading bytes at (i + 1) new
reads_on bytes at i b old new le lt is big r even adds =
    record {
      even = even;
      sums = adds_one bytes at i b old new le lt is r adds;
      high = let m : i + 1 - at ≡ (i - at) + 1 = omega arith in
          rw m (below_more (λ (k : ℕ). 128 ≤ get_or (drop at bytes) k 0) (i - at) r.high
          (rw (byte_there bytes at i b le is) big));
    }

-- the number ends here
pub ends_here : (bytes : List ℕ) (at i b : ℕ) (old new : Sum) → at ≤ i → i < length bytes
    → b ≡ get_or bytes i 0 → b < 128 → IsReading bytes at i old → Adds old new (b % 128)
    → leb_bytes (drop at bytes) ≡ Some (take (i + 1 - at) (drop at bytes))
ends_here bytes at i b old new le lt is small r adds =
    let m : i + 1 - at ≡ suc (i - at) = omega arith in
    rw m (leb_found (drop at bytes) (i - at) r.high (omega (arith, length-drop at bytes))
    (rw (byte_there bytes at i b le is) small))

pub is_cut : (bytes : List ℕ) (at i : ℕ) (sum : Sum) → length bytes ≤ i → IsReading bytes at i sum
    → leb_bytes (drop at bytes) ≡ None
is_cut bytes at i sum past r = leb_cut (drop at bytes)
    (λ (k : ℕ) (lt : k < length (drop at bytes)). r.high k (omega (arith, length-drop at bytes)))

pub starts : (bytes : List ℕ) (at : ℕ) (s : Sum) → s ≡ (record {
  low = 0;
  shift = 0;
  zeros = true;
  one = false;
  full = true;
}) → IsReading bytes at at s
unfolding sum_from
starts bytes at s e =
    let z : at - at ≡ 0 = omega arith in
    rw e (record {
      even =
          record { fits = omega arith; below = λ _. omega arith; steps = refl; top = omega arith };
      sums = rw z (record {
        high = 0;
        is = refl;
        few = omega arith;
        count = λ _. refl;
        past = λ (h : 63 < 0). absurd (omega arith);
        zeros = refl;
        one = refl;
        full = refl;
      });
      high = λ (k : ℕ) (lt : k < at - at). absurd (omega arith);
    })

pub length_of : (bytes : List ℕ) (at i : ℕ) → at ≤ i → i < length bytes
    → at + length (take (i + 1 - at) (drop at bytes)) ≡ i + 1
length_of bytes at i le lt = let e : length (take (i + 1 - at) (drop at bytes)) ≡ i + 1 - at =
    length-take-le (i + 1 - at) (drop at bytes) (omega (arith, length-drop at bytes)) in omega arith

pub unsigned_end : (bytes : List ℕ) (at i b : ℕ) (old new : Sum) (result : Result (ℕ × ℕ) LebFault)
    → at ≤ i → i < length bytes → b ≡ get_or bytes i 0 → b < 128 → IsReading bytes at i old
    → Adds old new (b % 128)
    → ((n total : ℕ) → Sums new n total
    → result ≡ (if nat_lt total (2 ^ 64) then Ok (total, i + 1) else Err TooWide))
    → result ≡ uleb_of bytes at
unfolding uleb_of
unsigned_end bytes at i b old new result le lt is small r adds gives =
    let found : leb_bytes (drop at bytes) ≡ Some (take (i + 1 - at) (drop at bytes)) =
    ends_here bytes at i b old new le lt is small r adds in
    let e : at + length (take (i + 1 - at) (drop at bytes)) ≡ i + 1 = length_of bytes at i le lt in
    let g : result ≡ (if nat_lt (unsigned_of (take (i + 1 - at) (drop at bytes))) (2 ^ 64)
    then Ok (unsigned_of (take (i + 1 - at) (drop at bytes)), i + 1) else Err TooWide) =
    gives (i + 1 - at) (sum_from 0 (take (i + 1 - at) (drop at bytes)))
    (adds_one bytes at i b old new le lt is r adds) in
    rw (found, e) g

pub last_there : (bytes : List ℕ) (at i b : ℕ) → at ≤ i → i < length bytes → b ≡ get_or bytes i 0
    → get_or (take (i + 1 - at) (drop at bytes))
    (length (take (i + 1 - at) (drop at bytes)) - 1) 0 ≡ b
last_there bytes at i b le lt is =
    let e : length (take (i + 1 - at) (drop at bytes)) - 1 ≡ i - at =
    omega (arith, length_of bytes at i le lt) in
    rw e (get_or-take (i + 1 - at) (drop at bytes) (i - at) 0 (omega arith)
    ∙ byte_there bytes at i b le is)

pub signed_end : (bytes : List ℕ) (at i b : ℕ) (old new : Sum) (negative : Bool)
    (result : Result (ℤ × ℕ) LebFault) → at ≤ i → i < length bytes → b ≡ get_or bytes i 0 → b < 128
    → IsReading bytes at i old → Adds old new (b % 128)
    → negative ≡ nat_le 64 b
    → ((n total : ℕ) → Sums new n total → let v = if negative then pos total -ℤ pos (128 ^ n)
    else pos total in result ≡ (if fits_i64 v then Ok (v, i + 1) else Err TooWide))
    → result ≡ sleb_of bytes at
unfolding sleb_of
signed_end bytes at i b old new negative result le lt is small r adds sign gives =
    let found : leb_bytes (drop at bytes) ≡ Some (take (i + 1 - at) (drop at bytes)) =
    ends_here bytes at i b old new le lt is small r adds in
    let e : at + length (take (i + 1 - at) (drop at bytes)) ≡ i + 1 = length_of bytes at i le lt in
    let w : length (take (i + 1 - at) (drop at bytes)) ≡ i + 1 - at = omega arith in
    let l : get_or (take (i + 1 - at) (drop at bytes))
    (length (take (i + 1 - at) (drop at bytes)) - 1) 0 ≡ b = last_there bytes at i b le lt is in
    let s : is_negative (take (i + 1 - at) (drop at bytes)) ≡ negative =
    rw l (ap (λ (x : ℕ). nat_le 64 x) (omega arith) ∙ sym sign) in
    let g = gives (i + 1 - at) (sum_from 0 (take (i + 1 - at) (drop at bytes)))
    (adds_one bytes at i b old new le lt is r adds) in
    rw (found, e, s, w) g

-- a number of one digit
leb_one : (b : ℕ) (rest : List ℕ) → b < 128 → leb_bytes (b ∷ rest) ≡ Some (b ∷ [])
unfolding leb_bytes
leb_one b rest low = let t : nat_lt b 128 ≡ true = lt-ltb b 128 low in rw t refl

sum_one : (b : ℕ) → b < 128 → sum_from 0 (b ∷ []) ≡ b
unfolding sum_from
sum_one b low = let m : b % 128 ≡ b = mod-eq_of_lt low in rw m (omega arith)

one_at : (at b : ℕ) → b < 128 → ◌≡◌ {A = Result (ℕ × ℕ) LebFault} (Ok (b, at + 1))
    (unsigned_at at (Some (b ∷ [])))
one_at at b low =
    let s : unsigned_of (b ∷ []) ≡ b = sum_one b low in
    let t : nat_lt b (2 ^ 64) ≡ true = lt-ltb b (2 ^ 64) (omega (arith, low)) in
    rw (s, t) refl

pub one_digit : (bytes : List ℕ) (at b : ℕ) → at < length bytes → b ≡ get_or bytes at 0 → b < 128
    → Ok (b, at + 1) ≡ uleb_of bytes at
unfolding uleb_of
one_digit bytes at b lt is low =
    let d : drop at bytes ≡ b ∷ drop (at + 1) bytes =
    drop_more bytes at 0 lt ∙ ap (λ (x : ℕ). x ∷ drop (at + 1) bytes) (sym is) in
    one_at at b low
    ∙ ap (unsigned_at at) (sym (ap leb_bytes d ∙ leb_one b (drop (at + 1) bytes) low))
