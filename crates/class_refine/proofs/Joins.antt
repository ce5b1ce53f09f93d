-- Two agreeing partitions have a join that agrees.
use Rattle.std.proofs.Common.{◌≡◌, ◌≢◌, ◌<◌, ◌≤◌, ℕ, zero, suc, Bool, true, false, cond, List}
use Rattle.std.proofs.Common.{[], Some, map, length, get_or, refl, sym, ◌∙◌, ap, subst}
use Rattle.std.proofs.Common.{arith, eqb, inl, inr, ◌⊎◌, ⊎_elim}
use Rattle.std.specs.List.{Contains}
use Rattle.std.specs.Option.{option_and_then}
use Rattle.std.proofs.lemmas.Bool.{cases_eq, cases_lt, eqb-true, eq-eqb}
use Rattle.std.proofs.lemmas.List.{get_or-map, length-map}
use Rattle.c_model.specs.Graph.{Shape, RefersWithin}
use Rattle.c_model.specs.Partition.{label_at, AreAlike, Agrees, Refines}
use Rattle.c_model.specs.Forwards.{defined_tag, forward_at, Tag}
use Rattle.c_model.specs.Forwards.{definitions_in, IsOpen, IsIndexOf, HasFittingForwards, Licence}
use Rattle.c_model.specs.Forwards.{AgreesWith, AreOneClass}
use Rattle.c_model.specs.Forwards.Licence.{alike, forwards, defined_by, defines}
use Rattle.c_model.specs.declared.graph.CType.{CType}
use Rattle.c_model.proofs.Licences.{cases_nil, not_both, forward_parts, closed_definition}
use Rattle.c_model.proofs.Licences.{alike-from_licence, AreAlike-coarser}
use Rattle.type_signature.proofs.Beside.{one_tag}
use Rattle.class_refine.specs.Laws.{IsJoin}

-- ---- one class for two

abbrev change : ℕ → ℕ → ℕ → ℕ
change a b c = cond (eqb c a) b c

change-same : (a b c : ℕ) → c ≡ a → change a b c ≡ b
change-same a b c e = ap (λ t. cond t b c) (eq-eqb c a e)

change-other : (a b c : ℕ) → c ≢ a → change a b c ≡ c
change-other a b c ne = by (eqb c a) refl
  where
    by : (t : Bool) → eqb c a ≡ t → cond (eqb c a) b c ≡ c
    by true e = absurd (ne (eqb-true c a e))
    by false e = ap (λ t. cond t b c) e

change-target : (a b : ℕ) → change a b b ≡ b
change-target a b = ⊎_elim (change-same a b b) (change-other a b b) (cases_eq b a)

-- ---- the join

-- an earlier place with this number, or none
earlier : (q : List ℕ) (c k : ℕ)
    → ((y : ℕ) × (y < k) × (get_or q y 0 ≡ c)) ⊎ ((y : ℕ) → y < k → get_or q y 0 ≡ c → ⊥)
earlier q c zero = inr (λ y lt e. omega (arith, lt))
earlier q c (suc k) = ⊎_elim
    (λ e. inl (k, omega arith, e))
    (λ ne. ⊎_elim
    (λ y. inl (y.0, (let lt = y.1 in omega arith), y.2))
    (λ none. inr (λ y lt e. ⊎_elim
    (λ l. none y l e)
    (λ l. let z : y ≡ k = omega arith in ne (ap (λ i. get_or q i 0) (sym z) ∙ e))
    (cases_lt y k)))
    (earlier q c k))
    (cases_eq (get_or q k 0) c)

abbrev Earlier : List ℕ → ℕ → Type 0
Earlier q k = ((y : ℕ) × (y < k) × (get_or q y 0 ≡ get_or q k 0))
    ⊎ ((y : ℕ) → y < k → get_or q y 0 ≡ get_or q k 0 → ⊥)

-- the class of node k becomes that of the earlier node
abbrev tied : (q v : List ℕ) (k : ℕ) → Earlier q k → List ℕ
tied q v k (inl (y, lt, e)) = map (change (get_or v k 0) (get_or v y 0)) v
tied q v k (inr none) = v

-- the classes of p, tied as the first k nodes are by q
abbrev joined_to : (p q : List ℕ) (k : ℕ) → List ℕ
joined_to p q zero = p
joined_to p q (suc k) = tied q (joined_to p q k) k (earlier q (get_or q k 0) k)

module _ (n : ℕ) (p q : List ℕ) where
  -- what is tied so far
  record IsTied (k : ℕ) (v : List ℕ) : Type 0 where
    covers : length v ≡ n
    first : Refines n p v
    second : (x y : ℕ) → x < k → y < k → get_or q x 0 ≡ get_or q y 0 → get_or v x 0 ≡ get_or v y 0

  module _ (v : List ℕ) (k : ℕ) (room : k < n) (s : IsTied k v) where
    new_at : (a b x : ℕ) → x < n → get_or (map (change a b) v) x 0 ≡ change a b (get_or v x 0)
    new_at a b x hx = get_or-map (change a b) v x 0 0 (let c = s.covers in omega arith)

    tied_next : (e : Earlier q k) → IsTied (suc k) (tied q v k e)
    tied_next (inl (y, lt, e)) = record {
      covers = length-map v f ∙ s.covers;
      first = record { related = λ x z hx hz h. moved x z hx hz (s.first.related x z hx hz h) };
      second = λ x z hx hz h. ⊎_elim
          (λ lx. ⊎_elim
          (λ lz. moved x z (omega arith) (omega arith) (s.second x z lx lz h))
          (λ lz. let ez : z ≡ k = omega arith in
          rw ez (with_new x lx (h ∙ ap (λ i. get_or q i 0) ez)))
          (cases_lt z k))
          (λ lx. let ex : x ≡ k = omega arith in ⊎_elim
          (λ lz. rw ex (sym (with_new z lz (sym h ∙ ap (λ i. get_or q i 0) ex))))
          (λ lz. let ez : z ≡ k = omega arith in rw (ex, ez) refl)
          (cases_lt z k))
          (cases_lt x k);
    }
      where
        f : ℕ → ℕ
        f = change (get_or v k 0) (get_or v y 0)

        moved : (x z : ℕ) → x < n → z < n → get_or v x 0 ≡ get_or v z 0
            → get_or (map f v) x 0 ≡ get_or (map f v) z 0
        moved x z hx hz h = new_at (get_or v k 0) (get_or v y 0) x hx
            ∙ (ap f h ∙ sym (new_at (get_or v k 0) (get_or v y 0) z hz))

        with_new : (x : ℕ) → x < k → get_or q x 0 ≡ get_or q k 0
            → get_or (map f v) x 0 ≡ get_or (map f v) k 0
        with_new x lx h = moved x y (omega arith) (omega arith) (s.second x y lx lt (h ∙ sym e))
            ∙ (new_at (get_or v k 0) (get_or v y 0) y (omega arith)
            ∙ (change-target (get_or v k 0) (get_or v y 0)
            ∙ (sym (change-same (get_or v k 0) (get_or v y 0) (get_or v k 0) refl)
            ∙ sym (new_at (get_or v k 0) (get_or v y 0) k room))))
    tied_next (inr none) = record {
      covers = s.covers;
      first = s.first;
      second = λ x z hx hz h. ⊎_elim
          (λ lx. ⊎_elim
          (λ lz. s.second x z lx lz h)
          (λ lz. let ez : z ≡ k = omega arith in
          absurd (none x lx (h ∙ ap (λ i. get_or q i 0) ez)))
          (cases_lt z k))
          (λ lx. let ex : x ≡ k = omega arith in ⊎_elim
          (λ lz. absurd (none z lz (sym h ∙ ap (λ i. get_or q i 0) ex)))
          (λ lz. let ez : z ≡ k = omega arith in rw (ex, ez) refl)
          (cases_lt z k))
          (cases_lt x k);
    }

  module _ (covers : length p ≡ n) where
    tied_to : (k : ℕ) → k ≤ n → IsTied k (joined_to p q k)
    tied_to zero room = record {
      covers = covers;
      first = record { related = λ x y hx hy e. e };
      second = λ x y hx hy e. absurd (omega (arith, hx));
    }
    tied_to (suc k) room = tied_next (joined_to p q k) k (omega arith)
        (tied_to k (omega arith)) (earlier q (get_or q k 0) k)

    -- what the join relates, each relation does that goes on from pair to pair and has the pairs of
    -- both partitions
    module _ (T : ℕ → ℕ → Type 0) (on : (x y z : ℕ) → x < n → y < n → z < n → T x y → T y z → T x z)
        (of_p : (x y : ℕ) → x < n → y < n → get_or p x 0 ≡ get_or p y 0 → T x y)
        (of_q : (x y : ℕ) → x < n → y < n → get_or q x 0 ≡ get_or q y 0 → T x y) where
      abbrev Within : List ℕ → Type 0
      Within v = (x y : ℕ) → x < n → y < n → get_or v x 0 ≡ get_or v y 0 → T x y

      within_next : (v : List ℕ) (k : ℕ) → k < n → IsTied k v → Within v → (e : Earlier q k)
          → Within (tied q v k e)
      within_next v k room s w (inl (y, lt, e)) x z hx hz h = ⊎_elim
          (λ ex. ⊎_elim
          (λ ez. w x z hx hz (ex ∙ sym ez))
          (λ nz. on x k z hx room hz (w x k hx room ex) (on k y z room hy hz
          (of_q k y room hy (sym e))
          (w y z hy hz (sym (change-same a b (get_or v x 0) ex)
          ∙ (same ∙ change-other a b (get_or v z 0) nz)))))
          (cases_eq (get_or v z 0) a))
          (λ nx. ⊎_elim
          (λ ez. on x y z hx hy hz
          (w x y hx hy (sym (change-other a b (get_or v x 0) nx)
          ∙ (same ∙ change-same a b (get_or v z 0) ez)))
          (on y k z hy room hz (of_q y k hy room e) (w k z room hz (sym ez))))
          (λ nz. w x z hx hz (sym (change-other a b (get_or v x 0) nx)
          ∙ (same ∙ change-other a b (get_or v z 0) nz)))
          (cases_eq (get_or v z 0) a))
          (cases_eq (get_or v x 0) a)
        where
          a : ℕ
          a = get_or v k 0

          b : ℕ
          b = get_or v y 0

          hy : y < n
          hy = omega arith

          same : change a b (get_or v x 0) ≡ change a b (get_or v z 0)
          same = sym (new_at v k room s a b x hx) ∙ (h ∙ new_at v k room s a b z hz)
      within_next v k room s w (inr none) x z hx hz h = w x z hx hz h

      within : (k : ℕ) → k ≤ n → Within (joined_to p q k)
      within zero room = of_p
      within (suc k) room = within_next (joined_to p q k) k (omega arith)
          (tied_to k (omega arith)) (within k (omega arith)) (earlier q (get_or q k 0) k)

    abbrev join : List ℕ
    join = joined_to p q n

    join_covers : length join ≡ n
    join_covers = (tied_to n (omega arith)).covers

    join_is : IsJoin n p q join
    join_is =
        let s = tied_to n (omega arith) in
        record {
          first = s.first;
          second = record { related = s.second };
          least = λ v f g. record {
            related = within (λ x y. get_or v x 0 ≡ get_or v y 0) (λ x y z hx hy hz a b. a ∙ b)
                f.related g.related n (omega arith);
          };
        }

-- ---- plain agreements

alike-on : (nodes : List CType) (r : List ℕ) (x y z : ℕ) → AreAlike nodes r x y
    → AreAlike nodes r y z → AreAlike nodes r x z
alike-on nodes r x y z a b =
    record { labels = a.labels ∙ b.labels; targets = a.targets ∙ b.targets }

alike-back : (nodes : List CType) (r : List ℕ) (x y : ℕ) → AreAlike nodes r x y
    → AreAlike nodes r y x
alike-back nodes r x y a = record { labels = sym a.labels; targets = sym a.targets }

pub plain_join : (nodes : List CType) (p q : List ℕ) → RefersWithin (length nodes) nodes
    → Agrees nodes p → Agrees nodes q → (r : List ℕ) × Agrees nodes r × IsJoin (length nodes) p q r
plain_join nodes p q i a b =
    let n = length nodes in
    let g : Shape = record { base = 0; nodes = nodes } in
    let r = join n p q a.covers in
    let is = join_is n p q a.covers in (
      r,
      record {
        covers = join_covers n p q a.covers;
        licensed = within n p q a.covers (AreAlike nodes r)
            (λ x y z hx hy hz s t. alike-on nodes r x y z s t)
            (λ x y hx hy e. AreAlike-coarser g i p r is.first x y (a.licensed x y hx hy e))
            (λ x y hx hy e. AreAlike-coarser g i q r is.second x y (b.licensed x y hx hy e))
            n (omega arith);
      },
      is,
    )

-- ---- licences that go on

module _ (g : Shape) (index : List (List ℕ)) (r : List ℕ) where
  -- these nodes are alike and of one class
  abbrev AreOneAlike : List ℕ → Type 0
  AreOneAlike ds = (d e : ℕ) → Contains ds d → Contains ds e
      → (get_or r d 0 ≡ get_or r e 0) × AreAlike g.nodes r d e

  -- a licence by which definitions of one class are alike
  data Tie (x y : ℕ) : Type 0 where
    tie_alike : definitions_in index x ≡ [] → definitions_in index y ≡ [] → AreAlike g.nodes r x y
        → Tie x y
    tie_forwards : (tag : Tag) → forward_at g x ≡ Some tag → forward_at g y ≡ Some tag → Tie x y
    tie_defined_by : IsOpen index x → Contains (definitions_in index x) y
        → AreOneAlike (definitions_in index x) → Tie x y
    tie_defines : IsOpen index y → Contains (definitions_in index y) x
        → AreOneAlike (definitions_in index y) → Tie x y

  Licence-from_tie : (x y : ℕ) → Tie x y → Licence g index r x y
  Licence-from_tie x y (tie_alike cx cy a) = alike (λ o. o cx) (λ o. o cy) a
  Licence-from_tie x y (tie_forwards tag fx fy) = forwards tag fx fy
  Licence-from_tie x y (tie_defined_by o c one) =
      defined_by o c (λ d e cd ce. (one d e cd ce).0)
  Licence-from_tie x y (tie_defines o c one) = defines o c (λ d e cd ce. (one d e cd ce).0)

  module _ (ix : IsIndexOf g index) (fit : HasFittingForwards g)
      (i : RefersWithin (length g.nodes) g.nodes) where
    -- a licence under an agreeing partition that refines this one
    Tie-from_licence : (p : List ℕ) → AgreesWith g index p → Refines (length g.nodes) p r
        → (x y : ℕ) → x < length g.nodes → y < length g.nodes → Licence g index p x y → Tie x y
    Tie-from_licence p a f x y hx hy l = by l
      where
        nil : (x : ℕ) → (IsOpen index x → ⊥) → definitions_in index x ≡ []
        nil x n = ⊎_elim (λ e. e) (λ o. absurd (n o)) (cases_nil (definitions_in index x))

        all : (x : ℕ) → x < length g.nodes → IsOpen index x
            → AreOneClass p (definitions_in index x) → AreOneAlike (definitions_in index x)
        all x hx o one d e cd ce =
            let pd = closed_definition g index ix x d hx o cd in
            let pe = closed_definition g index ix x e hx o ce in
            let k = one d e cd ce in (
              f.related d e pd.0 pe.0 k,
              AreAlike-coarser g i p r f d e (alike-from_licence g index ix fit p d e pd.0 pe.0
                  pd.1 pe.1 (a.licensed d e pd.0 pe.0 k)),
            )

        by : Licence g index p x y → Tie x y
        by (alike nx ny s) = tie_alike (nil x nx) (nil y ny) (AreAlike-coarser g i p r f x y s)
        by (forwards tag fx fy) = tie_forwards tag fx fy
        by (defined_by o c one) = tie_defined_by o c (all x hx o one)
        by (defines o c one) = tie_defines o c (all y hy o one)

    -- a definition of an open forward, and a node that is alike
    also_defines : (x d e : ℕ) → x < length g.nodes → e < length g.nodes → IsOpen index x
        → Contains (definitions_in index x) d → label_at g.nodes d ≡ label_at g.nodes e
        → Contains (definitions_in index x) e
    also_defines x d e hx he o c l =
        let f = ix.forwards x hx o in
        let h = (ix.defined x f.0 d hx o f.1).0 c in
        (ix.defined x f.0 e hx o f.1).1 (record {
          node = he;
          tagged = ap (option_and_then defined_tag) (sym l) ∙ h.tagged;
        })

    -- no definition is a forward of the files
    no_forward : (x d : ℕ) (tag : Tag) → x < length g.nodes → IsOpen index x
        → Contains (definitions_in index x) d → forward_at g d ≡ Some tag → ⊥
    no_forward x d tag hx o c e =
        let f = ix.forwards x hx o in
        not_both g.nodes d tag f.0 (forward_parts g d tag e).1
        ((ix.defined x f.0 d hx o f.1).0 c).tagged

    -- forwards of one tag are alike where one is closed
    module _ (x y : ℕ) (tag : Tag) (hx : x < length g.nodes) (hy : y < length g.nodes)
        (fx : forward_at g x ≡ Some tag) (fy : forward_at g y ≡ Some tag) where
      same_definitions : definitions_in index x ≡ definitions_in index y
      same_definitions = ix.together x y tag hx hy fx fy

      alike_forwards : definitions_in index x ≡ [] → AreAlike g.nodes r x y
      alike_forwards c = alike-from_licence g index ix fit r x y hx hy c
          (sym same_definitions ∙ c) (forwards tag fx fy)

      open_too : IsOpen index x → IsOpen index y
      open_too o e = o (same_definitions ∙ e)

    Tie-on : (x y z : ℕ) → x < length g.nodes → y < length g.nodes → z < length g.nodes → Tie x y
        → Tie y z → Tie x z
    Tie-on x y z hx hy hz (tie_alike cx cy a) (tie_alike dy cz b) =
        tie_alike cx cz (alike-on g.nodes r x y z a b)
    Tie-on x y z hx hy hz (tie_alike cx cy a) (tie_forwards tag fy fz) =
        tie_alike cx (sym (same_definitions y z tag hy hz fy fz) ∙ cy)
        (alike-on g.nodes r x y z a (alike_forwards y z tag hy hz fy fz cy))
    Tie-on x y z hx hy hz (tie_alike cx cy a) (tie_defined_by o c one) = absurd (o cy)
    Tie-on x y z hx hy hz (tie_alike cx cy a) (tie_defines o c one) =
        tie_defines o (also_defines z y x hz hx o c (sym a.labels)) one
    Tie-on x y z hx hy hz (tie_forwards tag fx fy) (tie_alike cy cz b) =
        let cx : definitions_in index x ≡ [] = same_definitions x y tag hx hy fx fy ∙ cy in
        tie_alike cx cz (alike-on g.nodes r x y z (alike_forwards x y tag hx hy fx fy cx) b)
    Tie-on x y z hx hy hz (tie_forwards tag fx fy) (tie_forwards other fy' fz) =
        tie_forwards tag fx (fz ∙ (sym fy' ∙ fy))
    Tie-on x y z hx hy hz (tie_forwards tag fx fy) (tie_defined_by o c one) =
        let e : definitions_in index y ≡ definitions_in index x =
        same_definitions y x tag hy hx fy fx in
        tie_defined_by (open_too y x tag hy hx fy fx o) (subst (λ ds. Contains ds z) e c)
        (subst AreOneAlike e one)
    Tie-on x y z hx hy hz (tie_forwards tag fx fy) (tie_defines o c one) =
        absurd (no_forward z y tag hz o c fy)
    Tie-on x y z hx hy hz (tie_defined_by o c one) (tie_alike cy cz b) =
        tie_defined_by o (also_defines x y z hx hz o c b.labels) one
    Tie-on x y z hx hy hz (tie_defined_by o c one) (tie_forwards tag fy fz) =
        absurd (no_forward x y tag hx o c fy)
    Tie-on x y z hx hy hz (tie_defined_by o c one) (tie_defined_by oy cz two) =
        absurd (oy (closed_definition g index ix x y hx o c).1)
    Tie-on x y z hx hy hz (tie_defined_by o c one) (tie_defines oz cy two) =
        let f = one_tag g index ix x z y y hx hz o oz c cy refl in tie_forwards f.0 f.1 f.2
    Tie-on x y z hx hy hz (tie_defines o c one) (tie_alike cy cz b) = absurd (o cy)
    Tie-on x y z hx hy hz (tie_defines o c one) (tie_forwards tag fy fz) =
        let e : definitions_in index y ≡ definitions_in index z =
        same_definitions y z tag hy hz fy fz in
        tie_defines (open_too y z tag hy hz fy fz o) (subst (λ ds. Contains ds x) e c)
        (subst AreOneAlike e one)
    Tie-on x y z hx hy hz (tie_defines o c one) (tie_defined_by oy cz two) =
        tie_alike (closed_definition g index ix y x hy o c).1
        (closed_definition g index ix y z hy o cz).1 (one x z c cz).1
    Tie-on x y z hx hy hz (tie_defines o c one) (tie_defines oz cy two) =
        absurd (o (closed_definition g index ix z y hz oz cy).1)

pub join_agrees : (g : Shape) (index : List (List ℕ)) (p q : List ℕ)
    → RefersWithin (length g.nodes) g.nodes → IsIndexOf g index → HasFittingForwards g
    → AgreesWith g index p → AgreesWith g index q
    → (r : List ℕ) × AgreesWith g index r × IsJoin (length g.nodes) p q r
join_agrees g index p q i ix fit a b =
    let n = length g.nodes in
    let r = join n p q a.covers in
    let is = join_is n p q a.covers in (
      r,
      record {
        covers = join_covers n p q a.covers;
        licensed = λ x y hx hy e. Licence-from_tie g index r x y (within n p q a.covers
            (Tie g index r) (Tie-on g index r ix fit i)
            (λ s t hs ht k. Tie-from_licence g index r ix fit i p a is.first s t hs ht
            (a.licensed s t hs ht k))
            (λ s t hs ht k. Tie-from_licence g index r ix fit i q b is.second s t hs ht
            (b.licensed s t hs ht k))
            n (omega arith) x y hx hy e);
      },
      is,
    )
