-- Texts of a section: what ends one, and what begins after it.
use Rattle.std.proofs.Common.{◌≡◌, ℕ, zero, suc, ◌+◌, ◌-◌, ◌<◌, ◌≤◌, ◌==◌, Bool, true, false, List}
use Rattle.std.proofs.Common.{[], ◌∷◌, ◌++◌, length, drop, get_or, Option, None, Some}
use Rattle.std.proofs.Common.{if◌then◌else◌, refl, sym, ap, subst, ◌∙◌, arith}
use Rattle.std.specs.Option.{option_map}
use Rattle.std.proofs.lemmas.Bool.{eqb-true, eqb-false, eq-eqb, ne_eqb}
use Rattle.std.proofs.lemmas.List.{drop-append-le, get_or-drop, drop-drop}
use Rattle.dw_base.specs.Texts.{text_from, text_of, HasNoNul}
use Rattle.dw_base.proofs.Texts.{text_within}
use Rattle.btf_strings.specs.Names.{begins_string}

-- the bytes begin with a text and its NUL
pub record Ends (xs text : List ℕ) : Type 0 where
  pub within : length text < length xs
  pub nul : get_or xs (length text) 1 ≡ 0
  pub before : (k : ℕ) → k < length text → get_or xs k 1 ≡ 0 → ⊥

before_more : (b : ℕ) (bs u : List ℕ) → (b ≡ 0 → ⊥) → ((k : ℕ) → k < length u → get_or bs k 1 ≡ 0
    → ⊥) → (k : ℕ) → k < suc (length u) → get_or (b ∷ bs) k 1 ≡ 0 → ⊥
before_more b bs u ne h zero lt e = ne e
before_more b bs u ne h (suc k) lt e = h k (omega arith) e

first : (b : ℕ) (bs text : List ℕ) (z : Bool) → (b == 0) ≡ z → (o : Option (List ℕ))
    → ((u : List ℕ) → o ≡ Some u → Ends bs u) → (if z then Some []
    else option_map (λ (rest : List ℕ). b ∷ rest) o) ≡ Some text → Ends (b ∷ bs) text
first b bs text true z o ih e =
    let q : [] ≡ text = cc in
    subst (λ (t : List ℕ). Ends (b ∷ bs) t) q (record {
      within = omega arith;
      nul = eqb-true b 0 z;
      before = λ (k : ℕ) (lt : k < 0) (n : get_or (b ∷ bs) k 1 ≡ 0). omega arith;
    })
first b bs text false z None ih e = cc
first b bs text false z (Some u) ih e =
    let q : b ∷ u ≡ text = cc in
    let h = ih u refl in
    subst (λ (t : List ℕ). Ends (b ∷ bs) t) q (record {
      within = omega (arith, h.within);
      nul = h.nul;
      before = before_more b bs u (eqb-false b 0 z) h.before;
    })

pub text_ends : (xs text : List ℕ) → text_from xs ≡ Some text → Ends xs text
unfolding text_from
text_ends [] text e = cc
text_ends (b ∷ bs) text e = first b bs text (b == 0) refl (text_from bs)
    (λ (u : List ℕ) (h : text_from bs ≡ Some u). text_ends bs u h) e

rest_missing : (b : ℕ) (bs : List ℕ) (z : Bool) (o : Option (List ℕ))
    → (if z then Some [] else option_map (λ (rest : List ℕ). b ∷ rest) o) ≡ None → o ≡ None
rest_missing b bs true o e = cc
rest_missing b bs false None e = refl
rest_missing b bs false (Some u) e = cc

missing_on : (n : ℕ) (xs : List ℕ) → text_from xs ≡ None → text_from (drop n xs) ≡ None
unfolding text_from
missing_on zero xs e = e
missing_on (suc n) [] e = refl
missing_on (suc n) (b ∷ bs) e = missing_on n bs (rest_missing b bs (b == 0) (text_from bs) e)

-- no text is behind the last
pub none_behind : (section : List ℕ) (at k : ℕ) → text_of section at ≡ None → at ≤ k
    → text_of section k ≡ None
unfolding text_of
none_behind section at k e le =
    let d : drop (k - at) (drop at section) ≡ drop k section =
    drop-drop (k - at) at section ∙ ap (λ (n : ℕ). drop n section) (omega arith) in
    subst (λ (xs : List ℕ). text_from xs ≡ None) d (missing_on (k - at) (drop at section) e)

-- no string begins inside a text
pub begins_none_inside : (section : List ℕ) (at : ℕ) (text : List ℕ) (k : ℕ) → text_of section at
    ≡ Some text → at < k → k ≤ at + length text → begins_string section k ≡ false
unfolding text_of
begins_none_inside section at text zero e lt le = absurd (omega arith)
begins_none_inside section at text (suc j) e lt le =
    let h = text_ends (drop at section) text e in
    let g : get_or (drop at section) (j - at) 1 ≡ get_or section j 1 =
    get_or-drop at section (j - at) 1 ∙ ap (λ (n : ℕ). get_or section n 1) (omega arith) in
    ne_eqb (get_or section j 1) 0
    (λ (z : get_or section j 1 ≡ 0). h.before (j - at) (omega arith) (g ∙ z))

-- one begins behind its NUL
pub begins_behind : (section : List ℕ) (at : ℕ) (text : List ℕ) → text_of section at ≡ Some text
    → begins_string section (at + (length text + 1)) ≡ true
unfolding text_of
begins_behind section at text e =
    let h = text_ends (drop at section) text e in
    let s : at + (length text + 1) ≡ suc (at + length text) = omega arith in
    rw s (eq-eqb (get_or section (at + length text) 1) 0
    (sym (get_or-drop at section (length text) 1) ∙ h.nul))

-- a text stays where more bytes follow
text_more : (b : ℕ) (text : List ℕ) (z : Bool) (o more : Option (List ℕ))
    → ((u : List ℕ) → o ≡ Some u → more ≡ Some u)
    → (if z then Some [] else option_map (λ (rest : List ℕ). b ∷ rest) o) ≡ Some text
    → (if z then Some [] else option_map (λ (rest : List ℕ). b ∷ rest) more) ≡ Some text
text_more b text true o more ih e = e
text_more b text false None more ih e = cc
text_more b text false (Some u) more ih e =
    ap (λ (m : Option (List ℕ)). option_map (λ (rest : List ℕ). b ∷ rest) m) (ih u refl) ∙ e

text_from_more : (xs ys text : List ℕ) → text_from xs ≡ Some text → text_from (xs ++ ys) ≡ Some text
unfolding text_from
text_from_more [] ys text e = cc
text_from_more (b ∷ bs) ys text e = text_more b text (b == 0) (text_from bs) (text_from (bs ++ ys))
    (λ (u : List ℕ) (h : text_from bs ≡ Some u). text_from_more bs ys u h) e

pub text_of_more : (xs ys : List ℕ) (at : ℕ) (text : List ℕ) → text_of xs at ≡ Some text
    → text_of (xs ++ ys) at ≡ Some text
unfolding text_of
text_of_more xs ys at text e =
    let le : at ≤ length xs = omega (arith, text_within xs at text e) in
    rw (drop-append-le at xs ys le) (text_from_more (drop at xs) ys text e)

-- a name with its NUL is a text
pub text_with_nul : (name rest : List ℕ) → HasNoNul name
    → text_from ((name ++ 0 ∷ []) ++ rest) ≡ Some name
unfolding text_from
text_with_nul [] rest h = refl
text_with_nul (b ∷ bs) rest h =
    let n : (b == 0) ≡ false = ne_eqb b 0 (h 0 0 (omega arith)) in
    rw (
      n,
      text_with_nul bs rest (λ (k d : ℕ) (lt : k < length bs). h (suc k) d (omega arith)),
    ) refl
