-- The types of a table, by the places of the classes of all nodes.
use Rattle.std.proofs.Common.{◌≡◌, ◌<◌, ◌≤◌, ◌+◌, ◌-◌, ◌++◌, ℕ, suc, zero, Bool, true, false, List}
use Rattle.std.proofs.Common.{[], ◌∷◌, Option, map, take, length, get_or, refl, sym, ◌∙◌, ap, subst}
use Rattle.std.proofs.Common.{arith, eqb, unwrap_or}
use Rattle.std.specs.List.{All, AllByRecursion, cons_option, filter, filter_map, find}
use Rattle.std.specs.List.{position_or_len, range_with_len, slice_index}
use Rattle.std.proofs.lemmas.Bool.{eq-eqb, eqb-true, ne_eqb}
use Rattle.std.proofs.lemmas.List.Elements.{All-from_recursion, All-from_get_or, All-get_or}
use Rattle.std.proofs.lemmas.List.Elements.{All-map}
use Rattle.std.proofs.lemmas.List.Sums.{position_or_len_is}
use Rattle.std.proofs.lemmas.List.FromFn.{length-map-range_with_len, get_or-map-range_with_len}
use Rattle.c_model.specs.declared.graph.CType.{CType}
use Rattle.c_model.specs.Graph.{Shape, RefersWithin}
use Rattle.c_model.specs.Laws.{AreOneRelation}
use Rattle.split_base.specs.Table.{first_of, own_firsts, is_plain, source_of, place_of, type_of}
use Rattle.split_base.specs.Table.{own_types, table_of}
use Rattle.split_base.specs.Building.{source_by, type_by}
use Rattle.split_base.proofs.Firsts.{own_place_is, place_of-same, place_of-apart}
use Rattle.split_base.proofs.Tables.{all_kept, place_of-below, length-table_of, source_of-below}
use Rattle.split_base.proofs.Relations.{filter_map_same, plain_same, renamed_type_same}

-- the numbers of a range that pass a test rise
rising : (test : ℕ → Bool) (a n i j : ℕ) → i < j → j < length (filter test (range_with_len a n))
    → get_or (filter test (range_with_len a n)) i 0 < get_or (filter test (range_with_len a n)) j 0
rising test a zero i j l h = absurd (omega arith)
rising test a (suc n) i j l h = by (test a) refl i j l h (rising test (a + 1) n)
  where
    rest : List ℕ
    rest = filter test (range_with_len (a + 1) n)

    Later : Type 0
    Later = (i j : ℕ) → i < j → j < length rest → get_or rest i 0 < get_or rest j 0

    above : (k : ℕ) → k < length rest → a < get_or rest k 0
    above k lt = All-get_or (λ (y : ℕ). a < y) rest k 0 lt (All-from_recursion (λ (y : ℕ). a < y)
        rest (all_kept (λ (y : ℕ). a < y) test (a + 1) n (λ y b u t. omega arith)))

    kept : (i j : ℕ) → i < j → j < length (a ∷ rest) → Later
        → get_or (a ∷ rest) i 0 < get_or (a ∷ rest) j 0
    kept i zero l h later = absurd (omega arith)
    kept zero (suc j) l h later = above j (omega arith)
    kept (suc i) (suc j) l h later = later i j (omega arith) (omega arith)

    by : (b : Bool) → test a ≡ b → (i j : ℕ) → i < j
        → j < length (filter test (range_with_len a (suc n))) → Later
        → get_or (filter test (range_with_len a (suc n))) i 0
        < get_or (filter test (range_with_len a (suc n))) j 0
    by true t i j l h later = rw t (kept i j l (rw t at h) later)
    by false t i j l h later = rw t (later i j l (rw t at h))

filter_map-map : {X Y Z : Type 0} (h : Y → Option Z) (f : X → Y) (xs : List X)
    → filter_map h (map f xs) ≡ filter_map (λ (x : X). h (f x)) xs
filter_map-map h f [] = refl
filter_map-map h f (x ∷ xs) = ap (cons_option (h (f x))) (filter_map-map h f xs)

module _ (g : Shape) (p : List ℕ) (covers : length p ≡ length g.nodes)
    (fits : g.base ≤ length g.nodes) where
  -- an own first node
  record IsFirst (x : ℕ) : Type 0 where
    own : g.base ≤ x
    node : x < length g.nodes
    first : first_of p x ≡ x

  each_first : (P : ℕ → Type 0) → ((x : ℕ) → IsFirst x → P x) → AllByRecursion P (own_firsts g p)
  each_first P h = all_kept P (λ (x : ℕ). eqb (first_of p x) x) g.base (length g.nodes - g.base)
      (λ y l u e. h y (record { own = l; node = omega (arith, fits); first = eqb-true _ _ e }))

  at_first : (i : ℕ) → i < length (own_firsts g p) → IsFirst (get_or (own_firsts g p) i 0)
  at_first i lt = All-get_or IsFirst (own_firsts g p) i 0 lt
      (All-from_recursion IsFirst (own_firsts g p) (each_first IsFirst (λ x f. f)))

  position_is : (i : ℕ) → i < length (own_firsts g p)
      → position_or_len (λ (y : ℕ). eqb y (get_or (own_firsts g p) i 0)) (own_firsts g p) ≡ i
  position_is i lt = position_or_len_is
      (λ (y : ℕ). eqb y (get_or (own_firsts g p) i 0)) (own_firsts g p) i 0 (omega arith)
      (λ (k : ℕ) (l : k < i). ne_eqb _ _
      (λ (e : get_or (own_firsts g p) k 0 ≡ get_or (own_firsts g p) i 0). absurd (omega (
        arith,
        rising (λ (x : ℕ). eqb (first_of p x) x) g.base (length g.nodes - g.base) k i l lt,
        e,
      ))))
      (λ l. eq-eqb (get_or (own_firsts g p) i 0) _ refl)

  module _ (nodes firsts : List ℕ) (n : nodes
      ≡ map (place_of g p) (range_with_len 0 (length g.nodes))) (f : firsts ≡ own_firsts g p) where
    pub nodes_length : length nodes ≡ length g.nodes
    nodes_length = ap length n ∙ length-map-range_with_len (place_of g p) 0 (length g.nodes)

    place_at : (x : ℕ) → x < length g.nodes → get_or nodes x 0 ≡ place_of g p x
    place_at x h = ap (λ (xs : List ℕ). get_or xs x 0) n
        ∙ get_or-map-range_with_len (place_of g p) 0 (length g.nodes) x x 0 h (omega arith)

    pub places_within : All (λ (k : ℕ). k < g.base + length firsts) nodes
    places_within = All-from_get_or (λ (k : ℕ). k < g.base + length firsts) nodes 0
        (λ (i : ℕ) (h : i < length nodes). omega (
          arith,
          place_at i (omega (arith, nodes_length)),
          place_of-below g p covers fits i (omega (arith, nodes_length)),
          length-table_of g p covers fits,
          ap length f,
        ))

    pub firsts_placed : (i : ℕ) → i < length firsts
        → get_or nodes (get_or firsts i 0) 0 ≡ g.base + i
    firsts_placed i h =
        let lt : i < length (own_firsts g p) = omega (arith, ap length f) in
        let w = at_first i lt in
        let x : ℕ = get_or (own_firsts g p) i 0 in
        ap (λ (fs : List ℕ). get_or nodes (get_or fs i 0) 0) f ∙ place_at x w.node
        ∙ own_place_is g p covers x (omega (arith, w.own, w.first))
        ∙ ap (λ (y : ℕ). g.base + position_or_len (λ (z : ℕ). eqb z y) (own_firsts g p)) w.first
        ∙ ap (λ (k : ℕ). g.base + k) (position_is i lt)

    one : AreOneRelation (length g.nodes) p nodes
    one = record {
      forth = record {
        related = λ (x y : ℕ) (hx : x < length g.nodes) (hy : y < length g.nodes)
            (e : get_or p x 0 ≡ get_or p y 0). place_at x hx ∙ place_of-same g p covers x y e
            ∙ sym (place_at y hy);
      };
      back = record {
        related = λ (x y : ℕ) (hx : x < length g.nodes) (hy : y < length g.nodes)
            (e : get_or nodes x 0 ≡ get_or nodes y 0).
            place_of-apart g p covers x y hx hy (sym (place_at x hx) ∙ e ∙ place_at y hy);
      };
    }

    source_is : (x : ℕ) → IsFirst x → source_by g nodes x ≡ source_of g p x
    source_is x w =
        ap (λ (o : Option ℕ). unwrap_or o x) (sym (plain_same g p nodes one x w.node))
        ∙ ap (unwrap_or (find (is_plain g p x) (range_with_len 0 (length g.nodes)))) (sym w.first)

    pub sources_below : (sources : List ℕ) → sources ≡ map (source_by g nodes) firsts
        → All (λ (s : ℕ). s < length g.nodes) sources
    sources_below sources e =
        subst (All (λ (s : ℕ). s < length g.nodes)) (sym (e ∙ ap (map (source_by g nodes)) f))
        (All-map (λ (s : ℕ). s < length g.nodes) (source_by g nodes) (own_firsts g p)
        (All-from_recursion (λ (x : ℕ). source_by g nodes x < length g.nodes) (own_firsts g p)
        (each_first (λ (x : ℕ). source_by g nodes x < length g.nodes) (λ (x : ℕ) (w : IsFirst x).
        omega (arith, source_is x w, source_of-below g p covers x w.node)))))

    pub table_made : RefersWithin (length g.nodes) g.nodes → (sources : List ℕ) (types : List CType)
        → sources ≡ map (source_by g nodes) firsts
        → types ≡ take g.base g.nodes ++ filter_map (type_by g nodes) sources → types ≡ table_of g p
    unfolding own_types
    table_made within sources types e t =
        t ∙ ap (λ (ts : List CType). take g.base g.nodes ++ ts)
        (ap (filter_map (type_by g nodes)) (e ∙ ap (map (source_by g nodes)) f)
        ∙ filter_map-map (type_by g nodes) (source_by g nodes) (own_firsts g p)
        ∙ filter_map_same
        (λ (x : ℕ). type_by g nodes (source_by g nodes x)) (type_of g p) (own_firsts g p)
        (each_first (λ (x : ℕ). type_by g nodes (source_by g nodes x) ≡ type_of g p x)
        (λ (x : ℕ) (w : IsFirst x). ap (type_by g nodes) (source_is x w) ∙ renamed_type_same g
        within (slice_index nodes) (place_of g p) place_at (source_of g p x))))
