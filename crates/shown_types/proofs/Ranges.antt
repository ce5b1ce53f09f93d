-- Tests over ranges.
use Rattle.std.proofs.Common.{◌≡◌, ◌+◌, ◌-◌, ◌<◌, ◌≤◌, ◌++◌, ℕ, zero, suc, Bool, true, false, cond}
use Rattle.std.proofs.Common.{List, [], ◌∷◌, None, Some, refl, sym, ap, ◌∙◌, arith, if◌then◌else◌}
use Rattle.std.proofs.Common.{append_assoc, ⊎_elim}
use Rattle.std.proofs.lemmas.Bool.{cases_lt}
use Rattle.std.proofs.lemmas.List.{append-nil}
use Rattle.std.specs.List.{filter, find, range_with_len}

-- a range begins with its first number
pub range_next : (x n : ℕ) → x < n
    → range_with_len x (n - x) ≡ x ∷ range_with_len (x + 1) (n - (x + 1))
range_next x n lt = let k : n - x ≡ suc (n - (x + 1)) = omega arith in ap (range_with_len x) k

keep_one : (b : Bool) (x : ℕ) (xs : List ℕ) → cond b (x ∷ xs) xs ≡ (if b then x ∷ [] else []) ++ xs
keep_one true x xs = refl
keep_one false x xs = refl

-- one number more is tested
pub kept_more :
    (p : ℕ → Bool) (x n : ℕ) (b : Bool) (all new whole : List ℕ) → x < n → b ≡ p x
    → new ≡ all ++ (if b then x ∷ [] else [])
    → all ++ filter p (range_with_len x (n - x)) ≡ whole
    → new ++ filter p (range_with_len (x + 1) (n - (x + 1))) ≡ whole
kept_more p x n b all new whole lt is added so_far =
    let rest : List ℕ = filter p (range_with_len (x + 1) (n - (x + 1))) in
    ap (λ (l : List ℕ). l ++ rest) added
    ∙ append_assoc all (if b then x ∷ [] else []) rest
    ∙ ap (λ (c : Bool). all ++ ((if c then x ∷ [] else []) ++ rest)) is
    ∙ ap
    (λ (l : List ℕ). all ++ l) (sym (ap (filter p) (range_next x n lt) ∙ keep_one (p x) x rest))
    ∙ so_far

-- all are tested
pub kept_all :
    (p : ℕ → Bool) (x n : ℕ) (all whole : List ℕ) → n ≤ x
    → all ++ filter p (range_with_len x (n - x)) ≡ whole → all ≡ whole
kept_all p x n all whole le so_far =
    let none : n - x ≡ 0 = omega arith in
    sym (append-nil all) ∙ sym (ap (λ (k : ℕ). all ++ filter p (range_with_len x k)) none) ∙ so_far

-- a number that fails the test before the others
pub find_none : (p : ℕ → Bool) (a n : ℕ) → ((k : ℕ) → a ≤ k → k < a + n → p k ≡ false)
    → find p (range_with_len a n) ≡ None
find_none p a zero h = refl
find_none p a (suc n) h =
    ap (λ (b : Bool). cond b (Some a) (find p (range_with_len (a + 1) n)))
    (h a (omega arith) (omega arith))
    ∙ find_none p (a + 1) n (λ k le lt. h k (omega arith) (omega arith))

pub find_at :
    (p : ℕ → Bool) (a n k : ℕ) → a ≤ k → k < a + n → p k ≡ true
    → ((j : ℕ) → a ≤ j → j < k → p j ≡ false)
    → find p (range_with_len a n) ≡ Some k
find_at p a zero k le lt holds never = absurd (omega arith)
find_at p a (suc n) k le lt holds never =
    by (p a) refl (λ above.
    find_at p (a + 1) n k above (omega arith) holds (λ j le' lt'. never j (omega arith) lt'))
  where
    by : (b : Bool) → p a ≡ b → (a + 1 ≤ k → find p (range_with_len (a + 1) n) ≡ Some k)
        → cond b (Some a) (find p (range_with_len (a + 1) n)) ≡ Some k
    by true e ih =
        ⊎_elim
        (λ (below : a < k). absurd
        (let g : true ≡ false = sym e ∙ never a (omega arith) below in cc))
        (λ (above : k ≤ a). let s : a ≡ k = omega arith in ap (λ (i : ℕ). Some i) s)
        (cases_lt a k)
    by false e ih =
        ⊎_elim
        (λ (below : a < k). ih (omega arith))
        (λ (above : k ≤ a). absurd (let s : a ≡ k = omega arith in
        let g : true ≡ false = sym holds ∙ (ap p (sym s) ∙ e) in cc))
        (cases_lt a k)
