-- The table of a partition unfolds as the nodes do.
use Rattle.std.proofs.Common.{◌≡◌, ◌<◌, ◌≤◌, ℕ, suc, zero, true, false, List, [], ◌∷◌, Option, None}
use Rattle.std.proofs.Common.{Some, map, take, length, get_or, refl, sym, ◌∙◌, ap, arith, eqb, not}
use Rattle.std.proofs.Common.{is_some, unwrap_or, ⊎_elim, ◌⊎◌, inl, inr}
use Rattle.std.specs.List.{Contains, find, range_with_len, slice_get, AllByRecursion}
use Rattle.std.specs.Option.{option_map, option_map_or}
use Rattle.std.proofs.lemmas.Bool.{eq-eqb, eqb-true, true≢false, and_parts, and_from, cases_lt}
use Rattle.std.proofs.lemmas.Bool.{lt-ltb}
use Rattle.c_model.specs.declared.label.Label.{Label}
use Rattle.c_model.specs.declared.graph.CType.{CType}
use Rattle.c_model.specs.declared.graph.Ref.{Ref}
use Rattle.c_model.specs.declared.graph.Ref.TheVariants.{Void, Node}
use Rattle.c_model.specs.Graph.{Shape, IsSound, IsBelow}
use Rattle.c_model.specs.Partition.{label_at, targets_at, target_by}
use Rattle.c_model.specs.Forwards.{forward_at, definition_at, definitions_in, IsOpen, IsIndexOf}
use Rattle.c_model.specs.Forwards.{Tag, HasFittingForwards, AgreesWith}
use Rattle.c_model.specs.Unfolding.{Tree, stand, stands_for, unfold_at, unfold_with}
use Rattle.c_model.proofs.Targets.{target_by-same, targets_at-below}
use Rattle.c_model.proofs.Trees.{stand-cases, unfold_with-class}
use Rattle.c_model.proofs.Licences.{cases_nil, closed_definition, not_both, forward_parts}
use Rattle.split_base.specs.Table.{first_of, is_plain, source_of, place_of, renamed, renamed_type}
use Rattle.split_base.specs.Table.{IsTableOf}
use Rattle.split_base.proofs.Tables.{found, not_found, slice_get-take}
use Rattle.split_base.proofs.Firsts.{first_of-below, first_of-class, base_place}

target_by-renamed : {A : Type 0} (f : ℕ → A) (r : ℕ → ℕ) (ts : List Ref)
    → map (target_by f) (map (renamed r) ts) ≡ map (target_by (λ x. f (r x))) ts
target_by-renamed f r [] = refl
target_by-renamed f r (Void ∷ ts) = ap (λ us. None ∷ us) (target_by-renamed f r ts)
target_by-renamed f r (Node a ∷ ts) = ap (λ us. Some (f (r a)) ∷ us) (target_by-renamed f r ts)

label_of_renamed : (place : ℕ → ℕ) (o : Option CType) → option_map (λ (c : CType). c.label)
    (option_map (renamed_type place) o) ≡ option_map (λ (c : CType). c.label) o
label_of_renamed place None = refl
label_of_renamed place (Some t) = refl

targets_of_renamed : (place : ℕ → ℕ) (o : Option CType)
    → option_map_or (λ (c : CType). c.targets) (option_map (renamed_type place) o) []
    ≡ map (renamed place) (option_map_or (λ (c : CType). c.targets) o [])
targets_of_renamed place None = refl
targets_of_renamed place (Some t) = refl

-- no definition is a forward
no_forward : (g : Shape) (d : ℕ) (tag : Tag) → definition_at g.nodes d ≡ Some tag
    → not (is_some (forward_at g d)) ≡ true
no_forward g d tag e = by (forward_at g d) refl
  where
    by : (o : Option Tag) → forward_at g d ≡ o → not (is_some o) ≡ true
    by None f = refl
    by (Some a) f = absurd (not_both g.nodes d a tag (forward_parts g d a f).1 e)

module _ (g : Shape) (index : List (List ℕ)) (ix : IsIndexOf g index) (fit : HasFittingForwards g)
    (p : List ℕ) (a : AgreesWith g index p) where
  -- the first node of a class is one of the graph's, and of the class
  first_within : (x : ℕ) → x < length g.nodes
      → (first_of p x < length g.nodes) × (get_or p (first_of p x) 0 ≡ get_or p x 0)
  first_within x hx = (
    omega (arith, first_of-below p x (omega (arith, a.covers)), a.covers),
    first_of-class p x (omega (arith, a.covers)),
  )

  -- what gives a class its type is of the class, and stands for itself
  source-class : (x : ℕ) → x < length g.nodes → (source_of g p x < length g.nodes) × (get_or p
      (source_of g p x) 0 ≡ get_or p x 0) × (stands_for index p (source_of g p x) ≡ source_of g p x)
  source-class x hx = by (find (is_plain g p x) (range_with_len 0 (length g.nodes))) refl
    where
      f : ℕ
      f = first_of p x

      fb : f < length g.nodes
      fb = (first_within x hx).0

      fc : get_or p f 0 ≡ get_or p x 0
      fc = (first_within x hx).1

      alone : ((k : ℕ) → k < length g.nodes → is_plain g p x k ≡ false)
          → (definitions_in index f ≡ []) ⊎ IsOpen index f → stands_for index p f ≡ f
      alone no_plain (inl c) = ap (stand p f) c
      alone no_plain (inr o) = ⊎_elim
          (λ w. let e : ℕ = w.2.0 in let ce : Contains (definitions_in index f) e = w.2.1 in
          let pe = closed_definition g index ix f e fb o ce in
          let fn = ix.forwards f fb o in
          let de = (ix.defined f fn.0 e fb o fn.1).0 ce in
          let plain : is_plain g p x e ≡ true =
          and_from (eqb (get_or p e 0) (get_or p x 0)) (not (is_some (forward_at g e)))
          (eq-eqb _ _ (w.2.2 ∙ fc)) (no_forward g e fn.0 de.tagged) in
          absurd (true≢false (sym plain ∙ no_plain e pe.0)))
          (λ w. w.1)
          (stand-cases p f (definitions_in index f) o)

      closed_plain : (k : ℕ) → k < length g.nodes → is_plain g p x k ≡ true
          → definitions_in index k ≡ []
      closed_plain k hk h = ⊎_elim (λ c. c) (λ o. absurd (let fk = ix.forwards k hk o in true≢false
          (sym (and_parts (eqb (get_or p k 0) (get_or p x 0)) (not (is_some (forward_at g k))) h).1
          ∙ ap (λ u. not (is_some u)) fk.1))) (cases_nil (definitions_in index k))

      by : (o : Option ℕ) → find (is_plain g p x) (range_with_len 0 (length g.nodes)) ≡ o
          → (source_of g p x < length g.nodes) × (get_or p (source_of g p x) 0 ≡ get_or p x 0)
          × (stands_for index p (source_of g p x) ≡ source_of g p x)
      by None h =
          let is : source_of g p x ≡ f = ap (λ u. unwrap_or u f) h in
          rw is (
            fb,
            fc,
            alone (λ k hk. not_found (is_plain g p x) (length g.nodes) h k hk)
                (cases_nil (definitions_in index f)),
          )
      by (Some k) h =
          let is : source_of g p x ≡ k = ap (λ u. unwrap_or u f) h in
          let w = found (is_plain g p x) (length g.nodes) k h in
          rw is (
            w.0,
            eqb-true _ _ (and_parts (eqb (get_or p k 0) (get_or p x 0))
                (not (is_some (forward_at g k))) w.1).0,
            ap (stand p k) (closed_plain k w.0 w.1),
          )

  module _ (sound : IsSound g.base g.nodes) (types : List CType) (t : IsTableOf g p types) where
    -- base types stand as they are
    base_type : (k : ℕ) → k < g.base → slice_get types k ≡ slice_get g.nodes k
    base_type k h = sym (slice_get-take g.base k types h)
        ∙ (ap (λ xs. slice_get xs k) t.base ∙ slice_get-take g.base k g.nodes h)

    not_open : (k : ℕ) → k < g.base → definitions_in index k ≡ []
    not_open k h = ⊎_elim (λ c. c) (λ o. absurd (let fk = ix.forwards k (omega (arith, sound.fits))
        o in true≢false (sym (lt-ltb k g.base h) ∙ (forward_parts g k fk.0 fk.1).0)))
        (cases_nil (definitions_in index k))

    -- a base node's targets are base nodes
    base_targets : (k : ℕ) → k < g.base → AllByRecursion (IsBelow g.base) (targets_at g.nodes k)
    base_targets k h = rw at (targets_at-below g.base (take g.base g.nodes) sound.base_within k)
      where
        at : targets_at g.nodes k ≡ targets_at (take g.base g.nodes) k
        at = ap (λ o. option_map_or (λ (c : CType). c.targets) o [])
            (sym (slice_get-take g.base k g.nodes h))

    unfold_with-base : (n k : ℕ) → k < g.base
        → unfold_with g.nodes index p n k ≡ unfold_at types n k
    unfold_with-base zero k h = refl
    unfold_with-base (suc n) k h =
        let is : stands_for index p k ≡ k = ap (stand p k) (not_open k h) in
        let own : unfold_with g.nodes index p (suc n) k ≡ (
          label_at g.nodes k,
          map (target_by
              (unfold_with g.nodes index p n)) (targets_at g.nodes k),
        ) = ap (λ z. (
          label_at g.nodes z,
          map (target_by (unfold_with g.nodes index p n)) (targets_at g.nodes z),
        )) is in
        let label : label_at types k ≡ label_at g.nodes k =
        ap (option_map (λ (c : CType). c.label)) (base_type k h) in
        let targets : targets_at types k ≡ targets_at g.nodes k =
        ap (λ o. option_map_or (λ (c : CType). c.targets) o []) (base_type k h) in
        let ih : map (target_by (unfold_with g.nodes index p n)) (targets_at g.nodes k)
        ≡ map (target_by (unfold_at types n)) (targets_at g.nodes k) =
        target_by-same g.base (unfold_with g.nodes index p n) (unfold_at types n)
        (unfold_with-base n) (targets_at g.nodes k) (base_targets k h) in
        let subtrees : map (target_by (unfold_with g.nodes index p n)) (targets_at g.nodes k)
        ≡ map (target_by (unfold_at types n)) (targets_at types k) =
        ih ∙ sym (ap (map (target_by (unfold_at types n))) targets) in
        let top : ◌≡◌ {A = Option Label × List (Option (Tree n))} (
          label_at g.nodes k,
          map (target_by (unfold_with g.nodes index p n)) (targets_at g.nodes k),
        )
        (unfold_at types (suc n) k) = cc in
        own ∙ top

    -- the unfolding of a node is that of its place in the table
    pub unfold_with-table : (n x : ℕ) → x < length g.nodes
        → unfold_with g.nodes index p n x ≡ unfold_at types n (place_of g p x)
    unfold_with-table zero x h = refl
    unfold_with-table (suc n) x h = by (cases_lt (first_of p x) g.base) (unfold_with-table n)
      where
        f : ℕ
        f = first_of p x

        r : ℕ
        r = source_of g p x

        by : (f < g.base) ⊎ (g.base ≤ f) → ((y : ℕ) → y < length g.nodes
            → unfold_with g.nodes index p n y ≡ unfold_at types n (place_of g p y))
            → unfold_with g.nodes index p (suc n) x ≡ unfold_at types (suc n) (place_of g p x)
        by (inl lt) ih =
            let is : place_of g p x ≡ f = base_place g p a.covers x lt in
            let w = first_within x h in
            unfold_with-class g index ix fit p a sound.within (suc n) x f h w.0 (sym w.1)
            ∙ (unfold_with-base (suc n) f lt ∙ ap (unfold_at types (suc n)) (sym is))
        by (inr le) ih =
            let w = source-class x h in
            let alike' : unfold_with g.nodes index p (suc n) x ≡ unfold_with g.nodes index p (suc n)
            r = unfold_with-class g index ix fit p a sound.within (suc n) x r h w.0 (sym w.1) in
            let own : unfold_with g.nodes index p (suc n) r ≡ (
              label_at g.nodes r,
              map (target_by (unfold_with g.nodes index p n)) (targets_at g.nodes r),
            ) =
            ap (λ z. (
              label_at g.nodes z,
              map (target_by (unfold_with g.nodes index p n)) (targets_at g.nodes z),
            )) w.2 in
            let is : slice_get types (place_of g p x)
            ≡ option_map (renamed_type (place_of g p)) (slice_get g.nodes r) = t.own x h le in
            let label : label_at types (place_of g p x) ≡ label_at g.nodes r =
            ap (option_map (λ (c : CType). c.label)) is
            ∙ label_of_renamed (place_of g p) (slice_get g.nodes r) in
            let targets : targets_at types (place_of g p x) ≡ map (renamed (place_of g p))
            (targets_at g.nodes r) = ap (λ o. option_map_or (λ (c : CType). c.targets) o []) is
            ∙ targets_of_renamed (place_of g p) (slice_get g.nodes r) in
            let same : map (target_by (unfold_with g.nodes index p n)) (targets_at g.nodes r)
            ≡ map (target_by (λ y. unfold_at types n (place_of g p y))) (targets_at g.nodes r) =
            target_by-same (length g.nodes) (unfold_with g.nodes index p n)
            (λ y. unfold_at types n (place_of g p y)) ih (targets_at g.nodes r)
            (targets_at-below (length g.nodes) g.nodes sound.within r) in
            let ren : map (target_by (unfold_at types n))
            (map (renamed (place_of g p)) (targets_at g.nodes r))
            ≡ map (target_by (λ y. unfold_at types n (place_of g p y))) (targets_at g.nodes r) =
            target_by-renamed (unfold_at types n) (place_of g p) (targets_at g.nodes r) in
            let subtrees : map (target_by (unfold_with g.nodes index p n)) (targets_at g.nodes r)
            ≡ map (target_by (unfold_at types n)) (targets_at types (place_of g p x)) =
            same ∙ (sym ren ∙ sym (ap (map (target_by (unfold_at types n))) targets)) in
            let top : ◌≡◌ {A = Option Label × List (Option (Tree n))} (
              label_at g.nodes r,
              map (target_by (unfold_with g.nodes index p n)) (targets_at g.nodes r),
            )
            (unfold_at types (suc n) (place_of g p x)) = cc in
            alike' ∙ (own ∙ top)
