-- Numbers with the forwards placed, and what no agreeing partition relates.
use Rattle.std.proofs.Common.{◌≡◌, ◌≢◌, ◌<◌, ℕ, zero, true, false, List, [], ◌∷◌, length, get_or}
use Rattle.std.proofs.Common.{refl, sym, ◌∙◌, ap, subst, arith, inl, inr, ⊎_elim}
use Rattle.std.specs.List.{Contains}
use Rattle.std.specs.Option.{option_and_then}
use Rattle.std.proofs.lemmas.Bool.{false≢true}
use Rattle.c_model.specs.Graph.{Shape, RefersWithin}
use Rattle.c_model.specs.Numberings.{IsNumbering}
use Rattle.c_model.specs.Partition.{label_at, targets_at, AreAlike, Refines}
use Rattle.c_model.specs.Forwards.{declared_tag, definitions_in, IsOpen, IsIndexOf}
use Rattle.c_model.specs.Forwards.{HasFittingForwards, Licence, AgreesWith, KeepsForwards}
use Rattle.c_model.specs.Forwards.Licence.{alike, forwards, defined_by, defines}
use Rattle.c_model.proofs.Targets.{classes_of-coarser, targets_at-below}
use Rattle.c_model.proofs.Licences.{cases_nil, not_both, forward_parts, closed_definition}
use Rattle.c_model.proofs.Licences.{alike-from_licence}
use Rattle.type_signature.specs.Signatures.{is_open_at, signature_at}
use Rattle.type_signature.specs.Labels.{mark_at}
use Rattle.type_signature.specs.Hashing.{hash_by, IsHashed, pair_at}
use Rattle.type_signature.specs.Placing.{IsPlaced, SharesNames, HaveOneTag, TellsApart, IsAbove}
use Rattle.type_signature.specs.Placing.{IsCoarse}
use Rattle.type_signature.proofs.Codes.{open-cases, signatures-same}
use Rattle.type_signature.proofs.Beside.{PlacesForwards-placed, names_placed, beside_placed}
use Rattle.type_signature.proofs.Beside.{raw-from_placed, placed-from_raw}

module _ (g : Shape) (index : List (List ℕ)) (ix : IsIndexOf g index)
    (fit : HasFittingForwards g) where
  -- numbers by a key that an agreeing partition respects, with the forwards placed, make a coarser
  -- partition
  module _ {K : Type 0} (key : ℕ → K) (raw v : List ℕ) (n : (x y : ℕ) → x < length g.nodes
      → y < length g.nodes → key x ≡ key y → get_or raw x 0 ≡ get_or raw y 0)
      (t : SharesNames g index raw) (s : IsPlaced index raw v) where
    above-closed : (q : List ℕ) → AgreesWith g index q → ((x y : ℕ) → x < length g.nodes
        → y < length g.nodes → definitions_in index x ≡ [] → definitions_in index y ≡ []
        → get_or q x 0 ≡ get_or q y 0 → AreAlike g.nodes q x y → key x ≡ key y) → (x y : ℕ)
        → x < length g.nodes → y < length g.nodes → definitions_in index x ≡ []
        → definitions_in index y ≡ [] → get_or q x 0 ≡ get_or q y 0 → get_or v x 0 ≡ get_or v y 0
    above-closed q a respects x y hx hy cx cy e =
        placed-from_raw g index ix raw v t s x y hx hy cx cy (n x y hx hy (respects x y hx hy cx cy
        e (alike-from_licence g index ix fit q x y hx hy cx cy (a.licensed x y hx hy e))))

    above-open : (q : List ℕ) → AgreesWith g index q → ((x y : ℕ) → x < length g.nodes
        → y < length g.nodes → definitions_in index x ≡ [] → definitions_in index y ≡ []
        → get_or q x 0 ≡ get_or q y 0 → AreAlike g.nodes q x y → key x ≡ key y) → (x y : ℕ)
        → x < length g.nodes → y < length g.nodes → IsOpen index x → get_or q x 0 ≡ get_or q y 0
        → get_or v x 0 ≡ get_or v y 0
    above-open q a respects x y hx hy ox e = by (a.licensed x y hx hy e)
      where
        by : Licence g index q x y → get_or v x 0 ≡ get_or v y 0
        by (alike nx ny al) = absurd (nx ox)
        by (forwards tag fx fy) =
            names_placed g index ix raw v t s x y hx hy ox (ix.together x y tag hx hy fx fy)
        by (defined_by o c one) = beside_placed g index ix raw v t s x y hx ox c (λ d d' cd cd'.
            let pd = closed_definition g index ix x d hx ox cd in
            let pe = closed_definition g index ix x d' hx ox cd' in
            above-closed q a respects d d' pd.0 pe.0 pd.1 pe.1 (one d d' cd cd'))
        by (defines oy c one) = absurd (ox (closed_definition g index ix y x hy oy c).1)

    pub Refines-placed : (q : List ℕ) → AgreesWith g index q → ((x y : ℕ) → x < length g.nodes → y
        < length g.nodes → definitions_in index x ≡ [] → definitions_in index y ≡ [] → get_or q x 0
        ≡ get_or q y 0 → AreAlike g.nodes q x y → key x ≡ key y) → Refines (length g.nodes) q v
    Refines-placed q a respects = record {
      related = λ x y hx hy e.
          ⊎_elim
          (λ cx. ⊎_elim (λ cy. above-closed q a respects x y hx hy cx cy e) (λ oy. sym
          (above-open q a respects y x hy hx oy (sym e))) (cases_nil (definitions_in index y)))
          (λ ox. above-open q a respects x y hx hy ox e)
          (cases_nil (definitions_in index x));
    }

  opened : (x : ℕ) → IsOpen index x → is_open_at index x ≡ true
  opened x o = ⊎_elim (λ a. a.1) (λ a. absurd (o a.0)) (open-cases index x)

  closed : (x : ℕ) → definitions_in index x ≡ [] → is_open_at index x ≡ false
  closed x e = ⊎_elim (λ a. absurd (a.0 e)) (λ a. a.1) (open-cases index x)

  open-from_mark : (x : ℕ) → is_open_at index x ≡ true → IsOpen index x
  open-from_mark x e =
      ⊎_elim (λ a. a.0) (λ a. absurd (false≢true (sym a.1 ∙ e))) (open-cases index x)

  -- open forwards with the same definitions are of one tag
  same_tag : (x y : ℕ) → x < length g.nodes → y < length g.nodes → IsOpen index x
      → definitions_in index x ≡ definitions_in index y → HaveOneTag g x y
  same_tag x y hx hy o e =
      let oy : IsOpen index y = λ c. o (e ∙ c) in
      let fx = ix.forwards x hx o in
      let fy = ix.forwards y hy oy in
      let d = some_in (definitions_in index x) o in
      let dx = (ix.defined x fx.0 d.0 hx o fx.1).0 d.1 in
      let dy = (ix.defined y fy.0 d.0 hy oy fy.1).0 (subst (λ us. Contains us d.0) e d.1) in
      (fx.0, fx.1, fy.1 ∙ (sym dy.tagged ∙ dx.tagged))
    where
      some_in : (ds : List ℕ) → ds ≢ [] → (d : ℕ) × Contains ds d
      some_in [] n = absurd (n refl)
      some_in (d ∷ ds) n = (d, (zero, omega arith, refl))

  -- ---- the start: labels

  TellsApart-labels : (raw : List ℕ) → IsNumbering (mark_at g.nodes index) (length g.nodes) raw
      → TellsApart g index raw
  TellsApart-labels raw n = record {
    shares = record {
      covers = n.covers;
      names = λ x y hx hy o e.
          let f = same_tag x y hx hy o e in
          let l = fit.labels x y f.0 hx hy f.1 f.2 in
          let m : is_open_at index x ≡ is_open_at index y =
          opened x o ∙ sym (opened y (λ c. o (e ∙ c))) in
          (n.same x y hx hy).1 (λ i. (l i, m i));
    };
    labels = λ x y hx hy cx cy e. ap (λ m. m.0) ((n.same x y hx hy).0 e);
    apart = λ x y hx hy e o.
        open-from_mark y (sym (ap (λ m. m.1) ((n.same x y hx hy).0 e)) ∙ opened x o);
    tags = λ x y hx hy ox oy e.
        let l : label_at g.nodes x ≡ label_at g.nodes y = ap (λ m. m.0) ((n.same x y hx hy).0 e) in
        let fx = ix.forwards x hx ox in
        let fy = ix.forwards y hy oy in
        let dx = (forward_parts g x fx.0 fx.1).1 in
        let dy = (forward_parts g y fy.0 fy.1).1 in
        (fx.0, fx.1, fy.1 ∙ (sym dy ∙ (ap (option_and_then declared_tag) (sym l) ∙ dx)));
  }

  pub IsAbove-labels : (raw v : List ℕ) → IsNumbering (mark_at g.nodes index) (length g.nodes) raw
      → IsPlaced index raw v → IsAbove g index raw v
  IsAbove-labels raw v n s =
      let t = TellsApart-labels raw n in
      record {
        tells = t;
        placing = s;
        above = λ q a. Refines-placed (mark_at g.nodes index) raw v
            (λ x y hx hy e. (n.same x y hx hy).1 e) t.shares s q a (λ x y hx hy cx cy e al.
            let l = al.labels in
            let m : is_open_at index x ≡ is_open_at index y = closed x cx ∙ sym (closed y cy) in
            λ i. (l i, m i));
      }

  -- ---- the start: hashes of signatures, which only a stable partition respects

  pub IsCoarse-above : (raw p : List ℕ) → IsAbove g index raw p → IsCoarse g index raw p
  IsCoarse-above raw p b = record { shares = b.tells.shares; placing = b.placing; above = b.above }

  module _ (i : RefersWithin (length g.nodes) g.nodes) (raw p next v : List ℕ) (b : IsCoarse g index
      raw p) (h : IsHashed g.nodes index p next) (s : IsPlaced index next v) where
    hashed-same : (x y : ℕ) → x < length g.nodes → y < length g.nodes → signature_at g.nodes index p
        x ≡ signature_at g.nodes index p y → get_or next x 0 ≡ get_or next y 0
    hashed-same x y hx hy e = h.at x hx ∙ (ap (λ k. hash_by k.0 k.1) e ∙ sym (h.at y hy))

    hashed-shares : SharesNames g index next
    hashed-shares = record {
      covers = h.covers;
      names = λ x y hx hy o e. hashed-same x y hx hy (signatures-same g.nodes index p x y
          (record {
            class = names_placed g index ix raw p b.shares b.placing x y hx hy o e;
            targets = inl (o, λ c. o (e ∙ c));
          }));
    }

    pub IsCoarse-hashed : IsCoarse g index next v
    IsCoarse-hashed = record {
      shares = hashed-shares;
      placing = s;
      above = λ q a. Refines-placed (signature_at g.nodes index p) next v hashed-same hashed-shares
          s q a (λ x y hx hy cx cy e al.
          signatures-same g.nodes index p x y (record {
            class = (b.above q a).related x y hx hy e;
            targets = inr (
              (cx, cy),
              classes_of-coarser (length g.nodes) q p (b.above q a)
                  (targets_at g.nodes x) (targets_at g.nodes y) (targets_at-below (length g.nodes)
                  g.nodes i x) (targets_at-below (length g.nodes) g.nodes i y) al.targets,
            );
          }));
    }

  -- labels and hashes together
  module _ (start p guess c raw v : List ℕ) (b : IsAbove g index start p)
      (d : IsCoarse g index guess c) (n : IsNumbering (pair_at start guess) (length g.nodes) raw)
      (s : IsPlaced index raw v) where
    starts : (x y : ℕ) → x < length g.nodes → y < length g.nodes → get_or raw x 0 ≡ get_or raw y 0
        → get_or start x 0 ≡ get_or start y 0
    starts x y hx hy e = ap (λ k. k.0) ((n.same x y hx hy).0 e)

    pair : (x y : ℕ) → x < length g.nodes → y < length g.nodes → get_or start x 0 ≡ get_or start y 0
        → get_or guess x 0 ≡ get_or guess y 0 → get_or raw x 0 ≡ get_or raw y 0
    pair x y hx hy e f = (n.same x y hx hy).1 (λ i. (e i, f i))

    paired-tells : TellsApart g index raw
    paired-tells = record {
      shares = record {
        covers = n.covers;
        names = λ x y hx hy o e.
            pair x y hx hy (b.tells.shares.names x y hx hy o e) (d.shares.names x y hx hy o e);
      };
      labels = λ x y hx hy cx cy e. b.tells.labels x y hx hy cx cy (starts x y hx hy e);
      apart = λ x y hx hy e. b.tells.apart x y hx hy (starts x y hx hy e);
      tags = λ x y hx hy ox oy e. b.tells.tags x y hx hy ox oy (starts x y hx hy e);
    }

    pub IsAbove-paired : IsAbove g index raw v
    IsAbove-paired = record {
      tells = paired-tells;
      placing = s;
      above = λ q a. Refines-placed (pair_at start guess) raw v
          (λ x y hx hy e. (n.same x y hx hy).1 e) paired-tells.shares s q a (λ x y hx hy cx cy e al.
          let k = raw-from_placed g index ix start p b.tells.shares b.placing x y hx hy cx cy
          ((b.above q a).related x y hx hy e) in
          let l = raw-from_placed g index ix guess c d.shares d.placing x y hx hy cx cy
          ((d.above q a).related x y hx hy e) in
          λ i. (k i, l i));
    }

  -- an open forward is with its definitions exactly where these are of one class
  pub KeepsForwards-above : (raw p : List ℕ) → IsAbove g index raw p → KeepsForwards g index p
  KeepsForwards-above raw p b = record {
    beside = λ x d hx o c.
        let places = PlacesForwards-placed g index ix raw p b.tells b.placing in
        let pd = closed_definition g index ix x d hx o c in (
          λ one. places.beside x d hx o c one,
          λ e. ⊎_elim (λ f. absurd (let h = ix.forwards x hx o in not_both g.nodes d f.0 h.0
              (forward_parts g d f.0 f.2).1 ((ix.defined x h.0 d hx o h.1).0 c).tagged))
              (λ a. a.1) (places.only x d hx pd.0 o e),
        );
  }
