-- What is known of sizes, one step at a time.
use Rattle.std.proofs.Common.{take, drop, ◌≡◌, ◌⊎◌, inl, inr, ⊎_elim, ℕ, zero, suc, ◌<◌, ◌≤◌, Bool}
use Rattle.std.proofs.Common.{true, false, eqb, eqb-true, eq-eqb, List, [], ◌∷◌, ◌++◌, length, map}
use Rattle.std.proofs.Common.{replicate, Option, Some, None, refl, sym, ap, ◌∙◌, subst, arith}
use Rattle.std.specs.Option.{option_flatten, option_map}
use Rattle.std.specs.List.{slice_get}
use Rattle.std.proofs.Math.ListN.{set}
use Rattle.std.proofs.lemmas.List.{append-nil, drop_all, length-set, take_all}
use Rattle.std.proofs.lemmas.Bool.{cases_lt}
use Rattle.std.proofs.lemmas.Option.{none-some, same_Some, slice_get_within, slice_get_past}
use Rattle.std.proofs.lemmas.Option.{slice_get-map}
use Rattle.c_model.specs.declared.graph.CType.{CType}
use Rattle.c_model.specs.declared.graph.Ref.{Ref}
use Rattle.c_model.specs.declared.graph.Ref.TheVariants.{Void, Node}
use Rattle.dw_base.proofs.Lists.{slice_get_set, slice_get_set_other, slice_get_none}
use Rattle.layout_printer.specs.Sizes.{AreSizes, size_of}
use Rattle.layout_printer.specs.Finding.{AreFound, IsChain, IsKnown, IsOn, StaysKnown, behind}
use Rattle.layout_printer.specs.Finding.{known_size, if_unknown, size_at, size_over, unknown_at}
use Rattle.layout_printer.specs.declared.sizes.Sizes.{Sizes}
use Rattle.layout_printer.proofs.Ways.{chain_less, chain_more, end_size}
use Rattle.layout_printer.proofs.Ways.{on_last, on_more, on_new, past_none, size_link, void_none}

-- where nothing is known of the size of what a reference is to
number_is : (z y : ℕ) (o : Option (Option (Option ℕ))) → if_unknown z o ≡ Some y
    → (z ≡ y) × (o ≡ Some None)
number_is z y None e = absurd (none-some y e)
number_is z y (Some None) e = (same_Some z y e, refl)
number_is z y (Some (Some o)) e = absurd (none-some y e)

pub unknown_is : (found : List (Option (Option ℕ))) (at : Ref) (y : ℕ)
    → unknown_at found at ≡ Some y → (at ≡ Node y) × (slice_get found y ≡ Some None)
unknown_is found Void y e = absurd (none-some y e)
unknown_is found (Node z) y e =
    let r = number_is z y (slice_get found z) e in
    (ap Node r.0, subst (λ (n : ℕ). slice_get found n ≡ Some None) r.0 r.1)

known_is : (found : List (Option (Option ℕ))) (x : ℕ) (o : Option (Option (Option ℕ)))
    → slice_get found x ≡ o → x < length found → if_unknown x o ≡ None → IsKnown found x
known_is found x None at lt e = absurd (slice_get_none found x lt at)
known_is found x (Some None) at lt e = absurd (none-some x (sym e))
known_is found x (Some (Some o)) at lt e = (o, at)

differ : (z y : ℕ) → eqb z y ≡ false → z ≡ y → ⊥
differ z y f e = let t : true ≡ false = sym (eq-eqb z y e) ∙ f in cc

-- one size is written
stays_set : (found : List (Option (Option ℕ))) (y : ℕ) (o : Option ℕ) → y < length found
    → StaysKnown found (set found y (Some o))
stays_set found y o lt z k = by (eqb z y) refl
  where
    by : (b : Bool) → eqb z y ≡ b → IsKnown (set found y (Some o)) z
    by true e = (
      o,
      subst (λ (n : ℕ). slice_get (set found y (Some o)) n ≡ Some (Some o))
          (sym (eqb-true z y e)) (slice_get_set found y (Some o) lt),
    )
    by false e = (k.0, slice_get_set_other found y z (Some o) (differ z y e) ∙ k.1)

-- the sizes known on the way from a type: the old ones, and none for those of the path
pub record IsFollowing (types : List CType) (old found : List (Option (Option ℕ))) (path : List ℕ)
    (at : Ref) (x : ℕ) : Type 0 where
  pub covers : length found ≡ length types
  pub chain : IsChain types path at
  pub none : (y : ℕ) → IsOn y path → slice_get found y ≡ Some (Some None)
  pub right : (y : ℕ) (o : Option ℕ) → slice_get found y ≡ Some (Some o)
      → (slice_get old y ≡ Some (Some o)) ⊎ IsOn y path
  pub stays : StaysKnown old found
  pub started : x < length types → (at ≡ Node x) ⊎ IsKnown found x

pub following : (types : List CType) (found : List (Option (Option ℕ))) (x : ℕ)
    → length found ≡ length types → IsFollowing types found found [] (Node x) x
following types found x e = record {
  covers = e;
  chain = tt;
  none = λ y m. absurd m;
  right = λ y o h. inl h;
  stays = λ y k. k;
  started = λ lt. inl refl;
}

pub follow_on : (types : List CType) (old found : List (Option (Option ℕ))) (path : List ℕ)
    (at : Ref) (x y : ℕ) (t : CType)
    → IsFollowing types old found path at x → unknown_at found at ≡ Some y
    → slice_get types y ≡ Some t
    → IsFollowing types old (set found y (Some None)) (path ++ y ∷ []) (behind t) x
follow_on types old found path at x y t f e there =
    let u = unknown_is found at y e in
    let lt : y < length found = slice_get_within found y None u.1 in
    let new : List (Option (Option ℕ)) = set found y (Some None) in
    let stays : StaysKnown found new = stays_set found y None lt in
    record {
      covers = length-set found y (Some None) ∙ f.covers;
      chain = chain_more types path y (behind t) (subst (IsChain types path) u.0 f.chain)
          (record { t = t; here = there; leads = refl });
      none = λ z m. ⊎_elim
          (λ (o : IsOn z path).
          slice_get_set_other found y z (Some None) (λ (q : z ≡ y). none-some None
          (same_Some None (Some None) (sym u.1 ∙ ap (slice_get found) (sym q) ∙ f.none z o)))
          ∙ f.none z o)
          (λ (q : z ≡ y). subst (λ (n : ℕ). slice_get new n ≡ Some (Some None)) (sym q)
          (slice_get_set found y (Some None) lt))
          (on_last z y path m);
      right = λ z o h. right z o h (eqb z y) refl;
      stays = λ z k. stays z (f.stays z k);
      started = λ less. inr (⊎_elim
          (λ (q : at ≡ Node x). let same : Node y ≡ Node x = sym u.0 ∙ q in let is : y ≡ x = cc in (
            None,
            subst
                (λ (n : ℕ). slice_get new n ≡ Some (Some None)) is
                (slice_get_set found y (Some None) lt),
          ))
          (λ (k : IsKnown found x). stays x k)
          (f.started less));
    }
  where
    right : (z : ℕ) (o : Option ℕ) → slice_get (set found y (Some None)) z ≡ Some (Some o)
        → (b : Bool) → eqb z y ≡ b → (slice_get old z ≡ Some (Some o)) ⊎ IsOn z (path ++ y ∷ [])
    right z o h true q =
        inr (subst (λ (n : ℕ). IsOn n (path ++ y ∷ [])) (sym (eqb-true z y q)) (on_new y path))
    right z o h false q = ⊎_elim
        (λ (k : slice_get old z ≡ Some (Some o)). inl k)
        (λ (m : IsOn z path). inr (on_more z y path m))
        (f.right z o (sym (slice_get_set_other found y z (Some None) (differ z y q)) ∙ h))

pub found_way : (types : List CType) (pointer : ℕ) (old found : List (Option (Option ℕ)))
    (path : List ℕ) (at : Ref) (x : ℕ)
    → IsFollowing types old found path at x → AreFound types pointer [] old
    → AreFound types pointer path found
found_way types pointer old found path at x f a = record {
  covers = f.covers;
  right = λ y o h. ⊎_elim
      (λ (k : slice_get old y ≡ Some (Some o)). ⊎_elim (λ (q : o ≡ size_of types pointer (Node y)).
      inl q) (λ (m : IsOn y []). absurd m) (a.right y o k))
      (λ (m : IsOn y path). inr m)
      (f.right y o h);
}

pub way_size : (types : List CType) (pointer : ℕ) (old found : List (Option (Option ℕ)))
    (path : List ℕ) (at : Ref) (x : ℕ)
    → IsFollowing types old found path at x → AreFound types pointer [] old
    → unknown_at found at ≡ None → known_size found at ≡ size_of types pointer at
way_size types pointer old found path at x f a e = end_size types pointer path at found f.chain
    (found_way types pointer old found path at x f a) f.none e

pub known_end : (types : List CType) (old found : List (Option (Option ℕ))) (path : List ℕ)
    (at : Ref) (x : ℕ)
    → IsFollowing types old found path at x → unknown_at found at ≡ None → x < length types
    → IsKnown found x
known_end types old found path at x f e lt = ⊎_elim
    (λ (q : at ≡ Node x). known_is found x (slice_get found x) refl
    (let c = f.covers in omega (arith, c)) (subst (λ (r : Ref). unknown_at found r ≡ None) q e))
    (λ (k : IsKnown found x). k)
    (f.started lt)

-- on the way back
pub record IsReturning (types : List CType) (pointer : ℕ) (old found : List (Option (Option ℕ)))
    (path : List ℕ) (size : Option ℕ) : Type 0 where
  pub at : Ref
  pub chain : IsChain types path at
  pub same : size ≡ size_of types pointer at
  pub right : AreFound types pointer path found
  pub stays : StaysKnown old found

pub return_bound : (types : List CType) (pointer : ℕ) (old found : List (Option (Option ℕ)))
    (path rest : List ℕ) (size : Option ℕ) (y : ℕ)
    → IsReturning types pointer old found path size → path ≡ rest ++ y ∷ [] → y < length types
return_bound types pointer old found path rest size y r e =
    let l =
    (chain_less types rest y r.at (subst (λ (p : List ℕ). IsChain types p r.at) e r.chain)).0 in
    slice_get_within types y l.t l.here

pub return_on : (types : List CType) (pointer : ℕ) (old found : List (Option (Option ℕ)))
    (path rest : List ℕ) (size new : Option ℕ) (y : ℕ) (t : CType)
    → IsReturning types pointer old found path size → path ≡ rest ++ y ∷ []
    → slice_get types y ≡ Some t → new ≡ size_over pointer size t
    → IsReturning types pointer old (set found y (Some new)) rest new
return_on types pointer old found path rest size new y t r e there n =
    let parts =
    chain_less types rest y r.at (subst (λ (p : List ℕ). IsChain types p r.at) e r.chain) in
    let lt : y < length found = (let c = r.right.covers in
    let l = slice_get_within types y t there in omega (arith, c, l)) in
    let is : new ≡ size_of types pointer (Node y) =
    n ∙ ap (size_over pointer size) (same_Some t parts.0.t (sym there ∙ parts.0.here))
    ∙ size_link types pointer y r.at size parts.0 r.same in
    record {
      at = Node y;
      chain = parts.1;
      same = is;
      right = record {
        covers = length-set found y (Some new) ∙ r.right.covers;
        right = λ z o h. right lt is z o h (eqb z y) refl;
      };
      stays = λ z k. stays_set found y new lt z (r.stays z k);
    }
  where
    right : y < length found → new ≡ size_of types pointer (Node y) → (z : ℕ) (o : Option ℕ)
        → slice_get (set found y (Some new)) z ≡ Some (Some o) → (b : Bool) → eqb z y ≡ b
        → (o ≡ size_of types pointer (Node z)) ⊎ IsOn z rest
    right lt is z o h true q =
        let same : z ≡ y = eqb-true z y q in
        let got : new ≡ o = same_Some new o (same_Some (Some new) (Some o)
        (sym (slice_get_set found y (Some new) lt)
        ∙ ap (slice_get (set found y (Some new))) (sym same) ∙ h)) in
        inl (sym got ∙ is ∙ ap (λ (n : ℕ). size_of types pointer (Node n)) (sym same))
    right lt is z o h false q = ⊎_elim
        (λ (k : o ≡ size_of types pointer (Node z)). inl k)
        (λ (m : IsOn z path). ⊎_elim (λ (n : IsOn z rest). inr n)
        (λ (s : z ≡ y). absurd (differ z y q s)) (on_last z y rest (subst (IsOn z) e m)))
        (r.right.right z o (sym (slice_get_set_other found y z (Some new) (differ z y q)) ∙ h))

-- before anything is known
nothing_known : (n y : ℕ) (o : Option ℕ)
    → slice_get (replicate {A = Option (Option ℕ)} n None) y ≡ Some (Some o) → ⊥
nothing_known zero y o e = none-some (Some o) e
nothing_known (suc n) zero o e = absurd (none-some o (same_Some None (Some o) e))
nothing_known (suc n) (suc y) o e = nothing_known n y o e

pub none_found : (types : List CType) (pointer n : ℕ) (found : List (Option (Option ℕ)))
    → found ≡ replicate n None → length found ≡ length types → AreFound types pointer [] found
none_found types pointer n found is e = record {
  covers = e;
  right = λ y o h. absurd
      (nothing_known n y o (ap (λ (l : List (Option (Option ℕ))). slice_get l y) (sym is) ∙ h));
}

-- all sizes are known
pub all_sizes : (types : List CType) (pointer : ℕ) (found : List (Option (Option ℕ)))
    → AreFound types pointer [] found → (x : ℕ) → IsKnown found x
    → slice_get (map option_flatten found) x ≡ Some (size_of types pointer (Node x))
all_sizes types pointer found a x k =
    slice_get-map option_flatten found x ∙ ap (option_map option_flatten) k.1
    ∙ ap (λ (o : Option ℕ). Some o) (⊎_elim (λ (q : k.0 ≡ size_of types pointer (Node x)). q)
    (λ (m : IsOn x []). absurd m) (a.right x k.0 k.1))

-- sizes that are kept
size_there : (types : List CType) (s : Sizes) → AreSizes types s → (x : ℕ) (o : Option ℕ)
    → slice_get s.items.items x ≡ Some o → o ≡ size_of types s.pointer (Node x)
size_there types s a x o e =
    let lt = slice_get_within s.items.items x o e in
    same_Some o (size_of types s.pointer (Node x))
    (sym e ∙ a.each x (let c = a.covers in omega (arith, c, lt)))

size_past : (types : List CType) (s : Sizes) → AreSizes types s → (x : ℕ)
    → slice_get s.items.items x ≡ None → None ≡ size_of types s.pointer (Node x)
size_past types s a x e =
    sym (past_none types s.pointer (length types) x (slice_get_past types x (⊎_elim
    (λ (lt : x < length types).
    absurd (none-some (size_of types s.pointer (Node x)) (sym e ∙ a.each x lt)))
    (λ (le : length types ≤ x). le)
    (cases_lt x (length types)))))

pub size_kept : (types : List CType) (s : Sizes) → AreSizes types s → (r : Ref)
    → size_at s.items.items r ≡ size_of types s.pointer r
size_kept types s a Void = sym (void_none types s.pointer (length types))
size_kept types s a (Node x) = by (slice_get s.items.items x) refl
  where
    by : (o : Option (Option ℕ)) → slice_get s.items.items x ≡ o
        → option_flatten o ≡ size_of types s.pointer (Node x)
    by (Some o) e = size_there types s a x o e
    by None e = size_past types s a x e

-- a whole slice that is written
pub written_back : {X : Type 0} (new old : List X) (n : ℕ) → length new ≡ length old
    → n ≡ length old → take n (new ++ drop (length new) old) ≡ new
written_back {X = X} new old n e f =
    ap (λ (l : List X). take n (new ++ l)) (drop_all (length new) old (omega (arith, e)))
    ∙ ap (take n) (append-nil new) ∙ take_all n new (omega (arith, e, f))
