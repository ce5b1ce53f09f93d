-- Ways from type to type, and what is known of sizes on the way.
use Rattle.std.proofs.Common.{◌≡◌, ◌⊎◌, inl, inr, ⊎_elim, ℕ, zero, suc, ◌+◌, ◌<◌, ◌≤◌, List, []}
use Rattle.std.proofs.Common.{◌∷◌, ◌++◌, length, Option, Some, None, refl, sym, ap, ◌∙◌, subst}
use Rattle.std.proofs.Common.{arith}
use Rattle.std.specs.Option.{option_and_then, option_flatten}
use Rattle.std.specs.List.{slice_get}
use Rattle.std.proofs.Math.ListN.{set}
use Rattle.std.proofs.lemmas.Option.{none-some, same_Some, slice_get_past}
use Rattle.std.proofs.lemmas.Bool.{cases_lt}
use Rattle.c_model.specs.declared.graph.CType.{CType}
use Rattle.c_model.specs.declared.graph.Ref.{Ref}
use Rattle.c_model.specs.declared.graph.Ref.TheVariants.{Void, Node}
use Rattle.dw_base.proofs.Lists.{slice_get_none}
use Rattle.layout_printer.specs.Sizes.{checked_size, size_by, size_from, size_in, size_of}
use Rattle.layout_printer.specs.Sizes.{size_rule}
use Rattle.layout_printer.specs.Finding.{AreFound, IsChain, IsLink, IsOn, behind, behind_by}
use Rattle.layout_printer.specs.Finding.{first_on, known_size, if_unknown, size_over, unknown_at}
use Rattle.layout_printer.specs.declared.sizes.SizeRule.{SizeRule}
use Rattle.layout_printer.specs.declared.sizes.SizeRule.TheVariants.{Stated, Pointer, Elements}
use Rattle.layout_printer.specs.declared.sizes.SizeRule.TheVariants.{Target, Unsized}
use Rattle.layout_printer.proofs.Chains.{size_fixed}

-- of how many types nothing is known
abbrev pub unknown_count : List (Option (Option ℕ)) → ℕ
unknown_count [] = 0
unknown_count (None ∷ xs) = unknown_count xs + 1
unknown_count (Some o ∷ xs) = unknown_count xs

pub fewer : (found : List (Option (Option ℕ))) (y : ℕ) (o : Option ℕ)
    → slice_get found y ≡ Some None → unknown_count (set found y (Some o)) < unknown_count found
fewer [] y o e = absurd (none-some None e)
fewer (None ∷ xs) zero o e = omega arith
fewer (Some p ∷ xs) zero o e = absurd (cc)
fewer (None ∷ xs) (suc y) o e = let h = fewer xs y o e in omega (arith, h)
fewer (Some p ∷ xs) (suc y) o e = let h = fewer xs y o e in omega (arith, h)

-- paths, one more at the end
pub on_more : (y x : ℕ) (p : List ℕ) → IsOn y p → IsOn y (p ++ x ∷ [])
on_more y x [] m = absurd m
on_more y x (z ∷ zs) (inl e) = inl e
on_more y x (z ∷ zs) (inr m) = inr (on_more y x zs m)

pub on_new : (x : ℕ) (p : List ℕ) → IsOn x (p ++ x ∷ [])
on_new x [] = inl refl
on_new x (z ∷ zs) = inr (on_new x zs)

pub on_last : (y x : ℕ) (p : List ℕ) → IsOn y (p ++ x ∷ []) → IsOn y p ⊎ (y ≡ x)
on_last y x [] (inl e) = inr e
on_last y x [] (inr m) = absurd m
on_last y x (z ∷ zs) (inl e) = inl (inl e)
on_last y x (z ∷ zs) (inr m) =
    ⊎_elim (λ (n : IsOn y zs). inl (inr n)) (λ (e : y ≡ x). inr e) (on_last y x zs m)

first_more : (p : List ℕ) (y : ℕ) (next : Ref) → first_on (p ++ y ∷ []) next ≡ first_on p (Node y)
first_more [] y next = refl
first_more (x ∷ xs) y next = refl

pub chain_more : (types : List CType) (p : List ℕ) (y : ℕ) (next : Ref) → IsChain types p (Node y)
    → IsLink types y next → IsChain types (p ++ y ∷ []) next
chain_more types [] y next c l = (l, tt)
chain_more types (x ∷ xs) y next c l =
    (subst (IsLink types x) (sym (first_more xs y next)) c.0, chain_more types xs y next c.1 l)

pub chain_less : (types : List CType) (p : List ℕ) (y : ℕ) (at : Ref)
    → IsChain types (p ++ y ∷ []) at → IsLink types y at × IsChain types p (Node y)
chain_less types [] y at c = (c.0, tt)
chain_less types (x ∷ xs) y at c = let r = chain_less types xs y at c.1 in
    (r.0, (subst (IsLink types x) (first_more xs y at) c.0, r.1))

-- behind a type of a path is another one of it, or its end
record LeadsOn (types : List CType) (p : List ℕ) (at : Ref) (y : ℕ) : Type 0 where
  next : Ref
  link : IsLink types y next
  on : (next ≡ at) ⊎ ((w : ℕ) × (next ≡ Node w) × IsOn w p)

first_leads : (types : List CType) (x : ℕ) (xs : List ℕ) (at : Ref)
    → IsLink types x (first_on xs at) → LeadsOn types (x ∷ xs) at x
first_leads types x [] at l = record { next = at; link = l; on = inl refl }
first_leads types x (z ∷ zs) at l =
    record { next = Node z; link = l; on = inr (z, refl, inr (inl refl)) }

leads : (types : List CType) (p : List ℕ) (at : Ref) (y : ℕ) → IsChain types p at → IsOn y p
    → LeadsOn types p at y
leads types [] at y c m = absurd m
leads types (x ∷ xs) at y c (inl e) =
    subst (LeadsOn types (x ∷ xs) at) (sym e) (first_leads types x xs at c.0)
leads types (x ∷ xs) at y c (inr m) =
    let r = leads types xs at y c.1 m in
    record {
      next = r.next;
      link = r.link;
      on = ⊎_elim (λ (e : r.next ≡ at). inl e)
          (λ (w : (w : ℕ) × (r.next ≡ Node w) × IsOn w xs). inr (w.0, w.1, inr w.2)) r.on;
    }

-- a size comes through the type behind
through : (rest : Ref → Option ℕ) (pointer : ℕ) (rule : SizeRule) (t : CType)
    → size_by rest pointer rule t ≡ size_by (λ _. rest (behind_by rule t)) pointer rule t
through rest pointer Stated t = refl
through rest pointer Pointer t = refl
through rest pointer Elements t = refl
through rest pointer Target t = refl
through rest pointer Unsized t = refl

from_behind : (rest : Ref → Option ℕ) (types : List CType) (pointer y : ℕ) (t : CType) → slice_get
    types y ≡ Some t → size_from rest types pointer (Node y) ≡ size_over pointer (rest (behind t)) t
from_behind rest types pointer y t at =
    ap (λ (o : Option CType). option_and_then (λ (u : CType).
    option_and_then checked_size (size_by rest pointer (size_rule u.label.kind) u)) o) at
    ∙ ap (option_and_then checked_size) (through rest pointer (size_rule t.label.kind) t)

none_by : (pointer w : ℕ) (rule : SizeRule) (t : CType) → behind_by rule t ≡ Node w
    → option_and_then checked_size (size_by (λ _. None) pointer rule t) ≡ None
none_by pointer w Stated t e = absurd (cc)
none_by pointer w Pointer t e = absurd (cc)
none_by pointer w Elements t e = refl
none_by pointer w Target t e = refl
none_by pointer w Unsized t e = absurd (cc)

module _ (types : List CType) (pointer : ℕ) where
  -- a link to a type without a size has none
  none_link : (k y w : ℕ) → IsLink types y (Node w) → size_in k types pointer (Node w) ≡ None
      → size_in (suc k) types pointer (Node y) ≡ None
  none_link k y w l e =
      from_behind (size_in k types pointer) types pointer y l.t l.here
      ∙ ap (λ (o : Option ℕ). size_over pointer o l.t) (ap (size_in k types pointer) l.leads ∙ e)
      ∙ none_by pointer w (size_rule l.t.label.kind) l.t l.leads

  -- no type of a path that ends in itself has a size
  cycle_by : (p : List ℕ) (c k y : ℕ) → IsOn c p → LeadsOn types p (Node c) y
      → ((z : ℕ) → IsOn z p → size_in k types pointer (Node z) ≡ None)
      → size_in (suc k) types pointer (Node y) ≡ None
  cycle_by p c k y on l rest = ⊎_elim
      (λ (e : l.next ≡ Node c). none_link k y c (subst (IsLink types y) e l.link) (rest c on))
      (λ (w : (w : ℕ) × (l.next ≡ Node w) × IsOn w p).
      none_link k y w.0 (subst (IsLink types y) w.1 l.link) (rest w.0 w.2))
      l.on

  cycle : (p : List ℕ) (c : ℕ) → IsChain types p (Node c) → IsOn c p → (k y : ℕ) → IsOn y p
      → size_in k types pointer (Node y) ≡ None
  cycle p c chain on zero y m = refl
  cycle p c chain on (suc k) y m =
      cycle_by p c k y on (leads types p (Node c) y chain m) (λ z n. cycle p c chain on k z n)

  -- the size of a type is that through the type behind it
  pub size_link : (y : ℕ) (at : Ref) (o : Option ℕ) → (l : IsLink types y at)
      → o ≡ size_of types pointer at → size_over pointer o l.t ≡ size_of types pointer (Node y)
  size_link y at o l e =
      ap (λ (p : Option ℕ). size_over pointer p l.t) (e ∙ ap (size_of types pointer) (sym l.leads))
      ∙ sym (from_behind (size_of types pointer) types pointer y l.t l.here)
      ∙ size_fixed types pointer (Node y)

  pub void_none : (n : ℕ) → size_in n types pointer Void ≡ None
  void_none zero = refl
  void_none (suc n) = refl

  pub past_none : (n y : ℕ) → slice_get types y ≡ None → size_in n types pointer (Node y) ≡ None
  past_none zero y e = refl
  past_none (suc n) y e = ap (λ (o : Option CType). option_and_then (λ (u : CType). option_and_then
      checked_size (size_by (size_in n types pointer) pointer (size_rule u.label.kind) u)) o) e

  -- the size at the end of a way
  pub end_size : (p : List ℕ) (at : Ref) (found : List (Option (Option ℕ))) → IsChain types p at
      → AreFound types pointer p found
      → ((y : ℕ) → IsOn y p → slice_get found y ≡ Some (Some None)) → unknown_at found at ≡ None
      → known_size found at ≡ size_of types pointer at
  end_size p Void found chain f none e = sym (void_none (length types))
  end_size p (Node y) found chain f none e = by (slice_get found y) refl e
    where
      by : (o : Option (Option (Option ℕ))) → slice_get found y ≡ o → if_unknown y o ≡ None
          → option_flatten (option_flatten o) ≡ size_of types pointer (Node y)
      by None at e = sym (past_none (length types) y (slice_get_past types y (⊎_elim
          (λ (lt : y < length types). absurd (let l : y
          < length found = (let c = f.covers in omega (arith, c)) in slice_get_none found y l at))
          (λ (le : length types ≤ y). le)
          (cases_lt y (length types)))))
      by (Some None) at e = absurd (none-some y (sym e))
      by (Some (Some o)) at e = ⊎_elim
          (λ (q : o ≡ size_of types pointer (Node y)). q)
          (λ (m : IsOn y p).
          let n : o ≡ None =
          same_Some o None (same_Some (Some o) (Some None) (sym at ∙ none y m)) in
          n ∙ sym (cycle p y chain m (length types) y m))
          (f.right y o at)
