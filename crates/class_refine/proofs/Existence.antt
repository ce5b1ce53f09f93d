-- Each graph has a coarsest agreeing partition: rounds find it.
use Rattle.std.proofs.Common.{◌≡◌, ◌≤◌, ◌+◌, ℕ, zero, suc, Bool, true, false, List, map}
use Rattle.std.proofs.Common.{Option, Some, None, length, refl, sym, ap}
use Rattle.std.proofs.Common.{arith, eqb, ◌&&◌, ⊎_elim}
use Rattle.std.specs.List.{range_with_len}
use Rattle.std.specs.Set.{distinct_count}
use Rattle.std.specs.Cmp.Lexicographic.{pointwise, bytes_decides}
use Rattle.std.proofs.Math.Bool.{beq}
use Rattle.std.proofs.lemmas.Bool.{cases_eq, and_parts, and_from}
use Rattle.std.proofs.lemmas.Option.{same_Some, none-some}
use Rattle.std.proofs.lemmas.List.FromFn.{length-map-range_with_len, get_or-map-range_with_len}
use Rattle.c_model.specs.Graph.{Shape, RefersWithin}
use Rattle.c_model.specs.Labels.{same_label, bool_decides, label_decides}
use Rattle.c_model.specs.Numberings.{IsNumbering}
use Rattle.c_model.specs.Forwards.{definitions_in, IsIndexOf, HasFittingForwards, IsCoarsestWith}
use Rattle.c_model.specs.Forwards.{KeepsForwards}
use Rattle.c_model.specs.declared.label.Label.{Label}
use Rattle.type_signature.specs.Labels.{mark_at}
use Rattle.type_signature.specs.Signatures.{signature_at, code_by, key_of}
use Rattle.type_signature.specs.Placing.{placed, IsPlaced, IsAbove}
use Rattle.type_signature.proofs.Codes.{code_by-signature}
use Rattle.type_signature.proofs.Taking.{IsNumbering-injective}
use Rattle.type_signature.proofs.Placed.{IsAbove-labels, KeepsForwards-above}
use Rattle.class_refine.proofs.Rounds.{round-goes_on, count-le_round, IsCoarsestWith-from_count}
use Rattle.class_refine.proofs.Rounds.{IsNumbering-within}
use Rattle.class_refine.proofs.Numbered.{numbering}

-- ---- tests of keys

abbrev pub same_label_at : Option Label → Option Label → Bool
same_label_at None None = true
same_label_at None (Some b) = false
same_label_at (Some a) None = false
same_label_at (Some a) (Some b) = same_label a b

pub label_at_decides : (a b : Option Label)
    → (same_label_at a b ≡ true → a ≡ b) × (a ≡ b → same_label_at a b ≡ true)
label_at_decides None None = (λ e. refl, λ e. refl)
label_at_decides None (Some b) = (λ e. cc, λ e. absurd (none-some b e))
label_at_decides (Some a) None = (λ e. cc, λ e. absurd (none-some a (sym e)))
label_at_decides (Some a) (Some b) = (
  λ e. ap (λ z. Some z) ((label_decides a b).0 e),
  λ e. (label_decides a b).1 (same_Some a b e),
)

abbrev same_mark_at : Option Label × Bool → Option Label × Bool → Bool
same_mark_at a b = beq a.1 b.1 && same_label_at a.0 b.0

mark_at_decides : (a b : Option Label × Bool)
    → (same_mark_at a b ≡ true → a ≡ b) × (a ≡ b → same_mark_at a b ≡ true)
mark_at_decides a b = (
  λ e.
      let s = and_parts (beq a.1 b.1) (same_label_at a.0 b.0) e in
      let flag = (bool_decides a.1 b.1).0 s.0 in
      let label = (label_at_decides a.0 b.0).0 s.1 in
      λ i. (label i, flag i),
  λ e. and_from (beq a.1 b.1) (same_label_at a.0 b.0)
      ((bool_decides a.1 b.1).1 (ap (λ (m : Option Label × Bool). m.1) e))
      ((label_at_decides a.0 b.0).1 (ap (λ (m : Option Label × Bool). m.0) e)),
)

-- ---- placed forwards

placing : (index : List (List ℕ)) (raw : List ℕ) → (v : List ℕ) × IsPlaced index raw v
placing index raw = (
  map at (range_with_len 0 (length raw)),
  record {
    covers = length-map-range_with_len at 0 (length raw);
    at = λ x hx. get_or-map-range_with_len at 0 (length raw) x x 0 hx (omega arith);
  },
)
  where
    at : ℕ → ℕ
    at x = placed raw x (definitions_in index x)

-- ---- rounds

module _ (g : Shape) (index : List (List ℕ)) (i : RefersWithin (length g.nodes) g.nodes)
    (ix : IsIndexOf g index) (fit : HasFittingForwards g) where
  abbrev Coarsest : Type 0
  Coarsest = (p : List ℕ) × IsCoarsestWith g index p × KeepsForwards g index p

  -- numbers by the signatures under a partition
  next : (p : List ℕ)
      → (v : List ℕ) × IsNumbering (signature_at g.nodes index p) (length g.nodes) v
  next p =
      let n = numbering (pointwise eqb) bytes_decides (key_of g.nodes index p) (length g.nodes) in (
        n.0,
        IsNumbering-injective (λ s. code_by s.0 s.1) code_by-signature
            (signature_at g.nodes index p) (length g.nodes) n.0 n.1,
      )

  module _ (raw p : List ℕ) (b : IsAbove g index raw p) where
    stops : distinct_count eqb (next p).0 ≡ distinct_count eqb raw → Coarsest
    stops e = (
      p,
      IsCoarsestWith-from_count g index ix fit i raw p (next p).0 b (next p).1 e,
      KeepsForwards-above g index ix fit raw p b,
    )

    more : distinct_count eqb raw ≤ distinct_count eqb (next p).0
    more = count-le_round g index ix fit i raw p (next p).0 b (next p).1

  -- as many more rounds as there can be more numbers
  from_round : (k : ℕ) (raw p : List ℕ) → IsAbove g index raw p
      → length g.nodes ≤ k + distinct_count eqb raw → Coarsest
  from_round zero raw p b room =
      let le = more raw p b in
      let few = IsNumbering-within (length g.nodes) (next p).0 (next p).1.covers in
      stops raw p b (omega arith)
  from_round (suc k) raw p b room = ⊎_elim (stops raw p b) (λ ne.
      let v = placing index (next p).0 in
      let on = round-goes_on g index ix fit i raw p (next p).0 b (next p).1 v.0 v.1 refl refl ne in
      let le = more raw p b in
      from_round k (next p).0 v.0 on.0 (omega arith))
      (cases_eq (distinct_count eqb (next p).0) (distinct_count eqb raw))

  pub coarsest_exists : Coarsest
  coarsest_exists =
      let n = numbering same_mark_at mark_at_decides (mark_at g.nodes index) (length g.nodes) in
      let v = placing index n.0 in
      from_round (length g.nodes) n.0 v.0 (IsAbove-labels g index ix fit n.0 v.0 n.1 v.1)
      (omega arith)
