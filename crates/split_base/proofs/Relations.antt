-- The table of a partition depends on which nodes it relates alone.
use Rattle.std.proofs.Common.{◌≡◌, ◌<◌, ◌+◌, ◌-◌, ℕ, suc, zero, Bool, true, false, cond, List, []}
use Rattle.std.proofs.Common.{◌∷◌, ◌++◌, Option, None, Some, map, take, length, get_or, refl, sym}
use Rattle.std.proofs.Common.{◌∙◌, ap, arith, eqb, ltb, not, is_some, ◌&&◌, unwrap_or, ◌⊎◌, inl}
use Rattle.std.proofs.Common.{inr}
use Rattle.std.specs.List.{cons_option, filter, filter_map, find, position_or_len, range_with_len}
use Rattle.std.specs.List.{slice_get, AllByRecursion, Contains}
use Rattle.std.specs.Option.{option_map, option_map_or}
use Rattle.std.proofs.lemmas.Bool.{eq-eqb, eqb-true, eqb-false, ne_eqb, cases_Bool}
use Rattle.std.proofs.lemmas.List.Sums.{fails_before_first, position_or_len_is}
use Rattle.c_model.specs.declared.graph.CType.{CType}
use Rattle.c_model.specs.declared.graph.Ref.{Ref}
use Rattle.c_model.specs.declared.graph.Ref.TheVariants.{Void, Node}
use Rattle.c_model.specs.Graph.{Shape, IsSound, IsBelow, RefersWithin}
use Rattle.c_model.specs.Forwards.{forward_at, definitions_in, IsOpen, IsForwardIndex, Licence}
use Rattle.c_model.specs.Forwards.{AgreesWith, AreOneClass}
use Rattle.c_model.specs.Forwards.Licence.{alike, forwards, defined_by, defines}
use Rattle.c_model.specs.Laws.{AreOneRelation}
use Rattle.c_model.proofs.Targets.{targets_at-below}
use Rattle.split_base.specs.Table.{first_of, own_firsts, is_plain, source_of, place_of, renamed}
use Rattle.split_base.specs.Table.{renamed_type, type_of, own_types, table_of}
use Rattle.split_base.specs.Merged.{IsMerged}
use Rattle.split_base.proofs.Firsts.{first_of-below, first_of-class}
use Rattle.split_base.proofs.Tables.{all_kept}

-- tests that agree on a range keep the same numbers of it, and find the same
filter_same : (f h : ℕ → Bool) (a n : ℕ) → ((y : ℕ) → y < a + n → f y ≡ h y)
    → filter f (range_with_len a n) ≡ filter h (range_with_len a n)
filter_same f h a zero e = refl
filter_same f h a (suc n) e =
    ap (λ (b : Bool). cond b (a ∷ filter f (range_with_len (a + 1) n))
    (filter f (range_with_len (a + 1) n))) (e a (omega arith))
    ∙ ap (λ (r : List ℕ). cond (h a) (a ∷ r) r)
    (filter_same f h (a + 1) n (λ y l. e y (omega arith)))

find_same : (f h : ℕ → Bool) (a n : ℕ) → ((y : ℕ) → y < a + n → f y ≡ h y)
    → find f (range_with_len a n) ≡ find h (range_with_len a n)
find_same f h a zero e = refl
find_same f h a (suc n) e =
    ap (λ (b : Bool). cond b (Some a) (find f (range_with_len (a + 1) n))) (e a (omega arith))
    ∙ ap (λ (r : Option ℕ). cond (h a) (Some a) r)
    (find_same f h (a + 1) n (λ y l. e y (omega arith)))

pub filter_map_same : {Y : Type 0} (f h : ℕ → Option Y) (xs : List ℕ)
    → AllByRecursion (λ (x : ℕ). f x ≡ h x) xs → filter_map f xs ≡ filter_map h xs
filter_map_same f h [] a = refl
filter_map_same f h (x ∷ xs) a = ap (λ (o : Option _). cons_option o (filter_map f xs)) a.0
    ∙ ap (cons_option (h x)) (filter_map_same f h xs a.1)

renamed_same : (n : ℕ) (f h : ℕ → ℕ) → ((x : ℕ) → x < n → f x ≡ h x) → (ts : List Ref)
    → AllByRecursion (IsBelow n) ts → map (renamed f) ts ≡ map (renamed h) ts
renamed_same n f h e [] b = refl
renamed_same n f h e (Void ∷ ts) b = ap (λ (us : List Ref). Void ∷ us) (renamed_same n f h e ts b.1)
renamed_same n f h e (Node x ∷ ts) b = ap (λ (us : List Ref). Node (f x) ∷ us)
    (renamed_same n f h e ts b.1) ∙ ap (λ (k : ℕ). Node k ∷ map (renamed h) ts) (e x b.0)

pub test_same : (n : ℕ) (p q : List ℕ) → AreOneRelation n p q → (x y : ℕ) → x < n → y < n
    → eqb (get_or p x 0) (get_or p y 0) ≡ eqb (get_or q x 0) (get_or q y 0)
test_same n p q one x y hx hy = by (cases_Bool (eqb (get_or p x 0) (get_or p y 0)))
  where
    by : (eqb (get_or p x 0) (get_or p y 0) ≡ true) ⊎ (eqb (get_or p x 0) (get_or p y 0) ≡ false)
        → eqb (get_or p x 0) (get_or p y 0) ≡ eqb (get_or q x 0) (get_or q y 0)
    by (inl t) = t ∙ sym (eq-eqb _ _ (one.forth.related x y hx hy (eqb-true _ _ t)))
    by (inr f) = f ∙ sym (ne_eqb _ _
        (λ (e : get_or q x 0 ≡ get_or q y 0). eqb-false _ _ f (one.back.related x y hx hy e)))

-- the first node that is no forward, of classes that relate the same pairs
pub plain_same : (g : Shape) (p q : List ℕ) → AreOneRelation (length g.nodes) p q → (x : ℕ)
    → x < length g.nodes → find (is_plain g p x) (range_with_len 0 (length g.nodes))
    ≡ find (is_plain g q x) (range_with_len 0 (length g.nodes))
plain_same g p q one x hx =
    find_same (is_plain g p x) (is_plain g q x) 0 (length g.nodes) (λ k l. ap (λ (b : Bool).
    b && not (is_some (forward_at g k))) (test_same (length g.nodes) p q one k x (omega arith) hx))

-- a node whose targets are in range, by functions that agree there
pub renamed_type_same : (g : Shape) → RefersWithin (length g.nodes) g.nodes → (f h : ℕ → ℕ)
    → ((x : ℕ) → x < length g.nodes → f x ≡ h x) → (s : ℕ) → option_map (renamed_type f)
    (slice_get g.nodes s) ≡ option_map (renamed_type h) (slice_get g.nodes s)
renamed_type_same g within f h e s =
    by (slice_get g.nodes s) (targets_at-below (length g.nodes) g.nodes within s)
  where
    by : (o : Option CType)
        → AllByRecursion (IsBelow (length g.nodes)) (option_map_or (λ (t : CType). t.targets) o [])
        → option_map (renamed_type f) o ≡ option_map (renamed_type h) o
    by None b = refl
    by (Some t) b = ap (λ (ts : List Ref). let u : CType = record {
      label = t.label;
      targets = ts;
    } in Some u) (renamed_same (length g.nodes) f h e t.targets b)

module _ (g : Shape) (p q : List ℕ) (sound : IsSound g.base g.nodes) (cp : length p ≡ length
    g.nodes) (cq : length q ≡ length g.nodes) (one : AreOneRelation (length g.nodes) p q) where
  first_same : (x : ℕ) → x < length g.nodes → first_of p x ≡ first_of q x
  first_same x hx = position_or_len_is (λ (c : ℕ). eqb c (get_or p x 0)) p (first_of q x) 0
      (omega (arith, first_of-below q x (omega (arith, cq)), cp, cq))
      (λ k lt. test_same (length g.nodes) p q one k x (omega (
        arith,
        first_of-below q x (omega
            (arith, cq)),
        cq,
      )) hx ∙ fails_before_first (λ (c : ℕ). eqb c (get_or q x 0)) q k 0 lt)
      (λ lt. test_same (length g.nodes) p q one (first_of q x) x (omega (arith, cp)) hx
      ∙ eq-eqb _ _ (first_of-class q x (omega (arith, cq))))

  firsts_same : own_firsts g p ≡ own_firsts g q
  firsts_same = filter_same (λ (x : ℕ). eqb (first_of p x) x)
      (λ (x : ℕ). eqb (first_of q x) x) g.base (length g.nodes - g.base)
      (λ y l. ap (λ (k : ℕ). eqb k y) (first_same y (omega (arith, sound.fits))))

  place_same : (x : ℕ) → x < length g.nodes → place_of g p x ≡ place_of g q x
  place_same x hx =
      ap (λ (f : ℕ). cond (ltb f g.base) f
      (g.base + position_or_len (λ (y : ℕ). eqb y f) (own_firsts g p))) (first_same x hx)
      ∙ ap (λ (fs : List ℕ). cond (ltb (first_of q x) g.base) (first_of q x)
      (g.base + position_or_len (λ (y : ℕ). eqb y (first_of q x)) fs)) firsts_same

  source_same : (x : ℕ) → x < length g.nodes → source_of g p x ≡ source_of g q x
  source_same x hx =
      ap (λ (o : Option ℕ). unwrap_or o (first_of p x)) (plain_same g p q one x hx)
      ∙ ap (unwrap_or (find (is_plain g q x) (range_with_len 0 (length g.nodes)))) (first_same x hx)

  type_same : (x : ℕ) → x < length g.nodes → type_of g p x ≡ type_of g q x
  type_same x hx =
      ap (λ (s : ℕ). option_map (renamed_type (place_of g p)) (slice_get g.nodes s))
      (source_same x hx)
      ∙ renamed_type_same g sound.within (place_of g p) (place_of g q) place_same (source_of g q x)

  pub table_same : table_of g p ≡ table_of g q
  unfolding own_types
  table_same = ap (λ (ts : List CType). take g.base g.nodes ++ ts)
      (each ∙ ap (filter_map (type_of g q)) firsts_same)
    where
      each : filter_map (type_of g p) (own_firsts g p) ≡ filter_map (type_of g q) (own_firsts g p)
      each = filter_map_same (type_of g p) (type_of g q) (own_firsts g p)
          (all_kept (λ (x : ℕ). type_of g p x ≡ type_of g q x) (λ (x : ℕ). eqb (first_of p x) x)
          g.base (length g.nodes - g.base) (λ y l u e. type_same y (omega (arith, sound.fits))))

-- two indexes of a graph's open forwards license the same pairs
module _ (g : Shape) (i j : List (List ℕ)) (a : IsForwardIndex g i) (b : IsForwardIndex g j) where
  open_too : (x : ℕ) → x < length g.nodes → IsOpen j x → IsOpen i x
  open_too x hx o = (a.opens x hx).1 ((b.opens x hx).0 o)

  member_back : (x d : ℕ) → x < length g.nodes → IsOpen j x → Contains (definitions_in i x) d
      → Contains (definitions_in j x) d
  member_back x d hx o c =
      let f = b.of.forwards x hx o in
      (b.of.defined x f.0 d hx o f.1).1 ((a.of.defined x f.0 d hx (open_too x hx o) f.1).0 c)

  member_too : (x d : ℕ) → x < length g.nodes → IsOpen j x → Contains (definitions_in j x) d
      → Contains (definitions_in i x) d
  member_too x d hx o c =
      let f = b.of.forwards x hx o in
      (a.of.defined x f.0 d hx (open_too x hx o) f.1).1 ((b.of.defined x f.0 d hx o f.1).0 c)

  one_class_too : (p : List ℕ) (x : ℕ) → x < length g.nodes → IsOpen j x
      → AreOneClass p (definitions_in j x) → AreOneClass p (definitions_in i x)
  one_class_too p x hx o c =
      λ (d e : ℕ) (cd : Contains (definitions_in i x) d) (ce : Contains (definitions_in i x) e).
      c d e (member_back x d hx o cd) (member_back x e hx o ce)

  licensed_too : (p : List ℕ) (x y : ℕ) → x < length g.nodes → y < length g.nodes
      → ((z : ℕ) → z < length g.nodes → IsOpen i z → IsOpen j z) → Licence g j p x y
      → Licence g i p x y
  licensed_too p x y hx hy back (alike cx cy al) =
      alike (λ o. cx (back x hx o)) (λ o. cy (back y hy o)) al
  licensed_too p x y hx hy back (forwards tag fx fy) = forwards tag fx fy
  licensed_too p x y hx hy back (defined_by o c k) =
      defined_by (open_too x hx o) (member_too x y hx o c) (one_class_too p x hx o k)
  licensed_too p x y hx hy back (defines o c k) =
      defines (open_too y hy o) (member_too y x hy o c) (one_class_too p y hy o k)

pub agrees_too : (g : Shape) (i j : List (List ℕ)) → IsForwardIndex g i → IsForwardIndex g j
    → (p : List ℕ) → AgreesWith g j p → AgreesWith g i p
agrees_too g i j a b p w = record {
  covers = w.covers;
  licensed = λ (x y : ℕ) (hx : x < length g.nodes) (hy : y < length g.nodes)
      (e : get_or p x 0 ≡ get_or p y 0).
      licensed_too g i j a b p x y hx hy (open_too g j i b a) (w.licensed x y hx hy e);
}

-- a graph is merged to one table at most
pub merged_same : (g : Shape) (types others : List CType) → IsSound g.base g.nodes
    → IsMerged g types → IsMerged g others → types ≡ others
merged_same g types others sound m o =
    let p : List ℕ = m.partition in
    let q : List ℕ = o.partition in
    let one : AreOneRelation (length g.nodes) p q = record {
      forth = o.coarsest.coarsest p
          (agrees_too g o.index m.index o.forwards m.forwards p m.coarsest.agrees);
      back = m.coarsest.coarsest q
          (agrees_too g m.index o.index m.forwards o.forwards q o.coarsest.agrees);
    } in
    m.table ∙ table_same g p q sound m.coarsest.agrees.covers o.coarsest.agrees.covers one
    ∙ sym o.table
