-- Groups that are asked for, and the index that they make.
use Rattle.std.proofs.Common.{◌≡◌, ◌<◌, ◌≤◌, ◌+◌, ℕ, suc, zero, Bool, true, false, List, [], ◌∷◌}
use Rattle.std.proofs.Common.{All, Some, Vec, map, length, take, get_or, refl, sym, ◌∙◌, ap}
use Rattle.std.proofs.Common.{arith, ⊎_elim}
use Rattle.std.specs.Global.{Global}
use Rattle.std.specs.Prelude.{slice_set}
use Rattle.std.specs.List.{slice_get}
use Rattle.std.proofs.lemmas.Bool.{cases_lt, cases_eq}
use Rattle.std.proofs.lemmas.List.{get_or-map, length-map, length-set, get_or_past, map-set}
use Rattle.std.proofs.lemmas.List.{get_or-set_same, get_or-set_other}
use Rattle.std.proofs.lemmas.List.Elements.{All-nil, All-cons, All-append}
use Rattle.c_model.specs.Graph.{Shape}
use Rattle.c_model.specs.Partition.{IsCoarsest}
use Rattle.c_model.specs.Forwards.{IsForwardIndex}
use Rattle.c_model.proofs.Taking.{take-read}
use Rattle.forward_rule.specs.Kept.{group_at, lists_of}
use Rattle.forward_rule.specs.Gathered.{Gathers, open_group}
use Rattle.forward_rule.specs.Asked.{IsAskedFor, KeepsAsked, AgreeWhereAsked}
use Rattle.forward_rule.proofs.Lookups.{length-lists_of}
use Rattle.forward_rule.proofs.Opening.{IsForwardIndex-built, tags-within}

-- ---- marks

read-at : (xs : List ℕ) (i : ℕ) → i < length xs → slice_get xs i ≡ Some (get_or xs i 0)
read-at [] i lt = absurd (omega (arith, lt))
read-at (x ∷ xs) zero lt = refl
read-at (x ∷ xs) (suc i) lt = read-at xs i (omega (arith, lt))

-- what is marked stays marked, and one more tag number is
module _ (asked new : List Bool) (count tag : ℕ) (covers : length asked ≡ count)
    (is : new ≡ slice_set asked tag true) where
  marks-length : length new ≡ count
  marks-length = ap length is ∙ (length-set asked tag true ∙ covers)

  marks-tag : (t : ℕ) → t ≡ tag → IsAskedFor count new t
  marks-tag t e lt = ap (λ v. get_or v t false) is
      ∙ (rw e (get_or-set_same asked tag true false (omega arith)))

  marks-more : (t : ℕ) → IsAskedFor count asked t → IsAskedFor count new t
  marks-more t m lt = ⊎_elim
      (λ e. marks-tag t e lt)
      (λ n. ap (λ v. get_or v t false) is ∙ (get_or-set_other asked tag t true false n ∙ m lt))
      (cases_eq t tag)

  pub marks-next : (tags : List ℕ) (i : ℕ) → i < length tags → tag ≡ get_or tags i 0
      → All (IsAskedFor count asked) (take i tags) → (length new ≡ count)
      × All (IsAskedFor count new) (take (i + 1) tags)
  marks-next tags i lt at all = (
    marks-length,
    rw (take-read tags i tag (read-at tags i lt ∙ ap (λ t. Some t) (sym at))) (All-append
        (IsAskedFor count new) (take i tags) (tag ∷ [])
        (λ k d lt. marks-more (get_or (take i tags) k d) (all k d lt))
        (All-cons (IsAskedFor count new) tag [] (marks-tag tag refl)
        (All-nil (IsAskedFor count new)))),
  )

-- ---- emptied groups

pub KeepsAsked-refl : (asked : List Bool) (groups : List (List ℕ)) → KeepsAsked asked groups groups
KeepsAsked-refl asked groups = record { covers = refl; at = λ i lt m. refl }

-- a vector in place of one with the same items, where it is asked for
pub KeepsAsked-set : (asked : List Bool) (old : List (List ℕ)) (groups : List (Vec ℕ Global))
    (i : ℕ) (v w : Vec ℕ Global) → i < length groups → v ≡ get_or groups i v
    → (get_or asked (i + 1) false ≡ true → w.items ≡ v.items)
    → KeepsAsked asked old (lists_of groups)
    → KeepsAsked asked old (lists_of (slice_set groups i w))
KeepsAsked-set asked old groups i v w lt at same kept =
    record {
      covers = ap length is ∙ (length-set (lists_of groups) i w.items ∙ kept.covers);
      at = λ j h m. ap (λ ls. get_or ls j []) is ∙ ⊎_elim
          (λ e. here j e (rw e at m) ∙ kept.at j h m)
          (λ n. get_or-set_other (lists_of groups) i j w.items [] n ∙ kept.at j h m)
          (cases_eq j i);
    }
  where
    is : lists_of (slice_set groups i w) ≡ slice_set (lists_of groups) i w.items
    is = map-set (λ (u : Vec ℕ Global). u.items) groups i w

    here : (j : ℕ) → j ≡ i → get_or asked (i + 1) false ≡ true
        → get_or (slice_set (lists_of groups) i w.items) j [] ≡ get_or (lists_of groups) j []
    here j e m =
        let l = length-lists_of groups in
        let a : get_or (lists_of groups) i [] ≡ (get_or groups i v).items =
        get_or-map (λ (u : Vec ℕ Global). u.items) groups i v [] lt in
        let b : (get_or groups i v).items ≡ v.items = ap (λ (u : Vec ℕ Global). u.items) (sym at) in
        rw e (get_or-set_same (lists_of groups) i w.items [] (omega (arith, l, lt))
        ∙ (same m ∙ sym (a ∙ b)))

-- the groups of the tag numbers are as before
pub AgreeWhereAsked-marked : (count : ℕ) (asked : List Bool) (tags : List ℕ)
    (groups kept : List (List ℕ)) → count ≡ length groups + 1 → All (IsAskedFor count asked) tags
    → KeepsAsked asked groups kept → AgreeWhereAsked tags groups kept
AgreeWhereAsked-marked count asked tags groups kept is all k = record {
  covers = k.covers;
  at = λ x d lt. by (get_or tags x d) (all x d lt);
}
  where
    by : (t : ℕ) → IsAskedFor count asked t → group_at kept t ≡ group_at groups t
    by zero m = refl
    by (suc t) m = ⊎_elim
        (λ lt. k.at t lt
        (let q : suc t ≡ t + 1 = omega arith in rw q at (m (omega (arith, is, lt)))))
        (λ le. let c = k.covers in get_or_past kept t [] (omega (arith, c, le))
        ∙ sym (get_or_past groups t [] le))
        (cases_lt t (length groups))

-- ---- the index

open_group-at : (p : List ℕ) (groups : List (List ℕ)) (t : ℕ)
    → group_at (map (open_group p) groups) t ≡ open_group p (group_at groups t)
open_group-at p groups zero = refl
open_group-at p groups (suc t) = ⊎_elim
    (λ lt. get_or-map (open_group p) groups t [] [] lt)
    (λ le. get_or_past (map (open_group p) groups) t [] (let l = length-map groups (open_group p)
    in omega (arith, l, le)) ∙ sym (ap (open_group p) (get_or_past groups t [] le)))
    (cases_lt t (length groups))

map-agree : (f g : ℕ → List ℕ) (ts : List ℕ) → All (λ t. f t ≡ g t) ts → map f ts ≡ map g ts
map-agree f g [] all = refl
map-agree f g (t ∷ ts) all =
    let one : f t ≡ g t = all zero 0 (omega arith) in
    let more : map f ts ≡ map g ts =
    map-agree f g ts (λ k d lt. all (suc k) d (omega (arith, lt))) in
    rw (one, more) refl

module _ (g : Shape) (tags p : List ℕ) (keys groups kept open_groups : List (List ℕ))
    (s : Gathers g (length g.nodes) tags keys groups) (c : IsCoarsest (take g.base g.nodes) p)
    (a : AgreeWhereAsked tags groups kept) (are : open_groups ≡ map (open_group p) kept) where
  -- the open groups of the tag numbers are as before
  open_groups-agree : map (group_at open_groups) tags
      ≡ map (group_at (map (open_group p) groups)) tags
  open_groups-agree = rw are (map-agree (group_at (map (open_group p) kept))
      (group_at (map (open_group p) groups)) tags (λ x d lt.
      let t = get_or tags x d in
      open_group-at p kept t ∙ (ap (open_group p) (a.at x d lt) ∙ sym (open_group-at p groups t))))

  pub IsForwardIndex-asked : IsForwardIndex g (map (group_at open_groups) tags)
  IsForwardIndex-asked = rw open_groups-agree
      (IsForwardIndex-built g tags p keys groups (map (open_group p) groups) s c refl)

  -- each number has a group
  pub tags-within-asked : All (λ t. t ≤ length open_groups) tags
  tags-within-asked x d lt =
      let within =
      tags-within g tags p keys groups (map (open_group p) groups) s c refl x d lt in
      let k = length-map groups (open_group p) in
      let l = length-map kept (open_group p) in
      let m = ap length are in
      let n = a.covers in
      omega (arith, within, k, l, m, n)
