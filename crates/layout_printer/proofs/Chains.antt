-- Sizes by chains of types: a size that a chain of any length gives is given within as many types
-- as there are.
use Rattle.std.proofs.Common.{◌≡◌, ℕ, zero, suc, ◌*◌, ◌-◌, ◌^◌, ◌<◌, ◌≤◌, Bool, true, false, ◌||◌}
use Rattle.std.proofs.Common.{eqb, eqb-true, List, [], ◌∷◌, length, Option, Some, None, IfSome}
use Rattle.std.proofs.Common.{refl, sym, ap, ◌∙◌, subst, arith, leb}
use Rattle.std.specs.Option.{option_and_then, option_map}
use Rattle.std.specs.List.{list_any, slice_get, IsDistinct, AllByRecursion}
use Rattle.std.proofs.lemmas.Bool.{leb-true}
use Rattle.std.proofs.lemmas.Option.{none-some, cond_some, slice_get_within}
use Rattle.std.proofs.lemmas.Map.Steps.{length-le_from_distinct_below}
use Rattle.c_model.specs.declared.graph.CType.{CType}
use Rattle.c_model.specs.declared.graph.Ref.{Ref}
use Rattle.c_model.specs.declared.graph.Ref.TheVariants.{Void, Node}
use Rattle.btf_codec.specs.Fields.{target_at}
use Rattle.layout_printer.specs.Sizes.{checked_size, size_by, size_from, size_in, size_of}
use Rattle.layout_printer.specs.Sizes.{size_rule, type_of}
use Rattle.layout_printer.specs.declared.sizes.SizeRule.{SizeRule}
use Rattle.layout_printer.specs.declared.sizes.SizeRule.TheVariants.{Stated, Pointer, Elements}
use Rattle.layout_printer.specs.declared.sizes.SizeRule.TheVariants.{Target, Unsized}

-- sizes are at most 2^60
fits_then : (o : Option ℕ) (s : ℕ) → option_and_then checked_size o ≡ Some s → s ≤ 2 ^ 60
fits_then None s e = absurd (none-some s e)
fits_then (Some x) s e = let b = cond_some (leb x (2 ^ 60)) x s e in
    subst (λ (y : ℕ). y ≤ 2 ^ 60) b.1 (leb-true x (2 ^ 60) b.0)

fits_from : (rest : Ref → Option ℕ) (pointer s : ℕ) (t : Option CType)
    → option_and_then (λ (u : CType). option_and_then checked_size
    (size_by rest pointer (size_rule u.label.kind) u)) t ≡ Some s → s ≤ 2 ^ 60
fits_from rest pointer s None e = absurd (none-some s e)
fits_from rest pointer s (Some u) e =
    fits_then (size_by rest pointer (size_rule u.label.kind) u) s e

fits_in : (n : ℕ) (types : List CType) (pointer : ℕ) (r : Ref) (s : ℕ)
    → size_in n types pointer r ≡ Some s → s ≤ 2 ^ 60
fits_in zero types pointer r s e = absurd (none-some s e)
fits_in (suc n) types pointer r s e =
    fits_from (size_in n types pointer) pointer s (type_of types r) e

pub fits_if : (types : List CType) (pointer : ℕ) (r : Ref) (o : Option ℕ)
    → o ≡ size_of types pointer r → IfSome o (λ s. s ≤ 2 ^ 60)
fits_if types pointer r None e = tt
fits_if types pointer r (Some s) e = fits_in (length types) types pointer r s (sym e)

-- what has a size by one has the same by the other
abbrev pub IsUnder : (Ref → Option ℕ) → (Ref → Option ℕ) → Type 0
IsUnder f g = (r : Ref) (s : ℕ) → f r ≡ Some s → g r ≡ Some s

map_under : (f : ℕ → ℕ) (o p : Option ℕ) → ((s : ℕ) → o ≡ Some s → p ≡ Some s) → (s : ℕ)
    → option_map f o ≡ Some s → option_map f p ≡ Some s
map_under f None p h s e = absurd (none-some s e)
map_under f (Some x) p h s e = ap (option_map f) (h x refl) ∙ e

then_under : (k : ℕ → Option ℕ) (o p : Option ℕ) → ((s : ℕ) → o ≡ Some s → p ≡ Some s) → (s : ℕ)
    → option_and_then k o ≡ Some s → option_and_then k p ≡ Some s
then_under k None p h s e = absurd (none-some s e)
then_under k (Some x) p h s e = ap (option_and_then k) (h x refl) ∙ e

by_under : (f g : Ref → Option ℕ) → IsUnder f g → (pointer : ℕ) (rule : SizeRule) (t : CType)
    (s : ℕ) → size_by f pointer rule t ≡ Some s → size_by g pointer rule t ≡ Some s
by_under f g u pointer Stated t s e = e
by_under f g u pointer Pointer t s e = e
by_under f g u pointer Elements t s e = map_under (λ (n : ℕ). t.label.extra * n)
    (f (target_at t.targets 0)) (g (target_at t.targets 0)) (u (target_at t.targets 0)) s e
by_under f g u pointer Target t s e = u (target_at t.targets 0) s e
by_under f g u pointer Unsized t s e = e

of_under : (f g : Ref → Option ℕ) → IsUnder f g → (pointer s : ℕ) (t : Option CType)
    → option_and_then (λ (u : CType).
    option_and_then checked_size (size_by f pointer (size_rule u.label.kind) u)) t ≡ Some s
    → option_and_then (λ (u : CType).
    option_and_then checked_size (size_by g pointer (size_rule u.label.kind) u)) t ≡ Some s
of_under f g u pointer s None e = absurd (none-some s e)
of_under f g u pointer s (Some t) e =
    then_under checked_size (size_by f pointer (size_rule t.label.kind) t) (size_by g pointer
    (size_rule t.label.kind) t) (by_under f g u pointer (size_rule t.label.kind) t) s e

from_under : (f g : Ref → Option ℕ) → IsUnder f g → (types : List CType) (pointer : ℕ)
    → IsUnder (size_from f types pointer) (size_from g types pointer)
from_under f g u types pointer r s e = of_under f g u pointer s (type_of types r) e

-- one type more keeps sizes
more_under : (k : ℕ) (types : List CType) (pointer : ℕ)
    → IsUnder (size_in k types pointer) (size_in (suc k) types pointer)
more_under zero types pointer r s e = absurd (none-some s e)
more_under (suc k) types pointer r s e = from_under (size_in k types pointer)
    (size_in (suc k) types pointer) (more_under k types pointer) types pointer r s e

none_before : (k : ℕ) (types : List CType) (pointer : ℕ) (r : Ref) (o : Option ℕ)
    → size_in k types pointer r ≡ o → size_in (suc k) types pointer r ≡ None → o ≡ None
none_before k types pointer r None at e = refl
none_before k types pointer r (Some s) at e =
    absurd (none-some s (sym e ∙ more_under k types pointer r s at))

sized_within : (f : Ref → Option ℕ) (types : List CType) (pointer x s : ℕ) (t : Option CType)
    → slice_get types x ≡ t
    → option_and_then (λ (u : CType). option_and_then checked_size
    (size_by f pointer (size_rule u.label.kind) u)) t ≡ Some s → x < length types
sized_within f types pointer x s None at e = absurd (none-some s e)
sized_within f types pointer x s (Some t) at e = slice_get_within types x t at

apart_by : (x y : ℕ) (ys : List ℕ) (b : Bool) → eqb x y ≡ b → (list_any (eqb x) (y ∷ ys) ≡ true → ⊥)
    → ((list_any (eqb x) ys ≡ true → ⊥) → AllByRecursion (λ z. eqb x z ≡ false) ys)
    → (b ≡ false) × AllByRecursion (λ z. eqb x z ≡ false) ys
apart_by x y ys true e never rest = absurd (never (ap (λ (b : Bool). b || list_any (eqb x) ys) e))
apart_by x y ys false e never rest =
    (refl, rest (λ m. never (ap (λ (b : Bool). b || list_any (eqb x) ys) e ∙ m)))

apart : (x : ℕ) (xs : List ℕ) → (list_any (eqb x) xs ≡ true → ⊥)
    → AllByRecursion (λ y. eqb x y ≡ false) xs
apart x [] never = tt
apart x (y ∷ ys) never = apart_by x y ys (eqb x y) refl never (λ n. apart x ys n)

module _ (types : List CType) (pointer : ℕ) where
  -- different types of the table to which the first k give no size
  record AreLeft (k : ℕ) (xs : List ℕ) : Type 0 where
    distinct : IsDistinct eqb xs
    below : (q : ℕ) → list_any (eqb q) xs ≡ true → q < length types
    none : (q : ℕ) → list_any (eqb q) xs ≡ true → size_in k types pointer (Node q) ≡ None

  member : (q x : ℕ) (xs : List ℕ) (b : Bool) → eqb q x ≡ b → (b || list_any (eqb q) xs) ≡ true
      → (P : ℕ → Type 0) → P x → (list_any (eqb q) xs ≡ true → P q) → P q
  member q x xs true at m P px pq = subst P (sym (eqb-true q x at)) px
  member q x xs false at m P px pq = pq m

  left_more : (k x s : ℕ) (xs : List ℕ) → AreLeft (suc k) xs → size_in (suc k) types pointer
      (Node x) ≡ Some s → size_in k types pointer (Node x) ≡ None → AreLeft k (x ∷ xs)
  unfolding IsDistinct
  left_more k x s xs l e f = record {
    distinct = (apart x xs (λ m. none-some s (sym (l.none x m) ∙ e)), l.distinct);
    below = λ q m. member q x xs (eqb q x) refl m (λ y. y < length types)
        (sized_within (size_in k types pointer) types pointer x s (slice_get types x) refl e)
        (l.below q);
    none =
        λ q m. member q x xs (eqb q x) refl m (λ y. size_in k types pointer (Node y) ≡ None) f (λ n.
        none_before k types pointer (Node q) (size_in k types pointer (Node q)) refl (l.none q n));
  }

  left_before : (k : ℕ) (xs : List ℕ) → AreLeft (suc k) xs → AreLeft k xs
  left_before k xs l = record {
    distinct = l.distinct;
    below = l.below;
    none = λ q m.
        none_before k types pointer (Node q) (size_in k types pointer (Node q)) refl (l.none q m);
  }

  within_by : (k x s : ℕ) (xs : List ℕ) (o : Option ℕ) → AreLeft (suc k) xs
      → size_in (suc k) types pointer (Node x) ≡ Some s → size_in k types pointer (Node x) ≡ o
      → ((ys : List ℕ) → AreLeft k ys
      → IsUnder (size_in k types pointer) (size_in (length types - length ys) types pointer))
      → size_in (length types - length xs) types pointer (Node x) ≡ Some s
  within_by k x s xs (Some z) l e f rest = rest xs (left_before k xs l) (Node x) s
      (f ∙ (sym (more_under k types pointer (Node x) z f) ∙ e))
  within_by k x s xs None l e f rest =
      let next : AreLeft k (x ∷ xs) = left_more k x s xs l e f in
      let few : length (x ∷ xs) ≤ length types =
      length-le_from_distinct_below (x ∷ xs) (length types) next.distinct next.below in
      let one : suc (length types - length (x ∷ xs)) ≡ length types - length xs =
      omega (arith, few) in
      subst (λ (m : ℕ). size_in m types pointer (Node x) ≡ Some s) one
      (from_under (size_in k types pointer) (size_in (length types - length (x ∷ xs)) types pointer)
      (rest (x ∷ xs) next) types pointer (Node x) s e)

  within : (k : ℕ) (xs : List ℕ) → AreLeft k xs
      → IsUnder (size_in k types pointer) (size_in (length types - length xs) types pointer)
  within zero xs l r s e = absurd (none-some s e)
  within (suc k) xs l Void s e = absurd (none-some s e)
  within (suc k) xs l (Node x) s e =
      within_by k x s xs (size_in k types pointer (Node x)) l e refl (λ ys m. within k ys m)

  -- no chain gives more than one within as many types as there are
  pub all_under : (k : ℕ) → IsUnder (size_in k types pointer) (size_of types pointer)
  unfolding IsDistinct
  all_under k r s e =
      let all : length types - 0 ≡ length types = omega arith in
      subst (λ (m : ℕ). size_in m types pointer r ≡ Some s) all
      (within k []
      (record { distinct = tt; below = λ q m. absurd (cc); none = λ q m. absurd (cc) }) r s e)

  same : (o p : Option ℕ) → ((s : ℕ) → o ≡ Some s → p ≡ Some s)
      → ((s : ℕ) → p ≡ Some s → o ≡ Some s) → o ≡ p
  same None None f g = refl
  same None (Some y) f g = g y refl
  same (Some x) p f g = sym (f x refl)

  -- a size is that from the sizes behind it
  pub size_fixed : (r : Ref)
      → size_from (size_of types pointer) types pointer r ≡ size_of types pointer r
  size_fixed r = same (size_in (suc (length types)) types pointer r) (size_in (length types) types
      pointer r) (all_under (suc (length types)) r) (more_under (length types) types pointer r)
