-- Each list of nodes has a coarsest plain agreement: rounds find it.
use Rattle.std.proofs.Common.{◌≡◌, ◌<◌, ◌≤◌, ◌+◌, ℕ, zero, suc, List, Some, length, get_or}
use Rattle.std.proofs.Common.{sym, ◌∙◌, arith, eqb, ⊎_elim}
use Rattle.std.specs.Set.{distinct_count}
use Rattle.std.specs.Cmp.Lexicographic.{pointwise, bytes_decides}
use Rattle.std.proofs.lemmas.Bool.{cases_eq}
use Rattle.std.proofs.lemmas.Option.{same_Some}
use Rattle.c_model.specs.Graph.{RefersWithin}
use Rattle.c_model.specs.Numberings.{IsNumbering}
use Rattle.c_model.specs.Partition.{label_at, targets_at, classes_of, Agrees, Refines, IsCoarsest}
use Rattle.c_model.specs.declared.graph.CType.{CType}
use Rattle.c_model.proofs.Targets.{classes_of-coarser, targets_at-below}
use Rattle.type_signature.specs.Signatures.{code_by}
use Rattle.type_signature.proofs.Codes.{code_by-injective}
use Rattle.class_refine.proofs.Splitting.{count-le, Refines-from_count}
use Rattle.class_refine.proofs.Rounds.{IsNumbering-within}
use Rattle.class_refine.proofs.Numbered.{numbering}
use Rattle.class_refine.proofs.Existence.{same_label_at, label_at_decides}

-- a partition tells labels apart, and relates what any plain agreement relates
record IsAboveAll (nodes : List CType) (p : List ℕ) : Type 0 where
  covers : length p ≡ length nodes
  labels : (x y : ℕ) → x < length nodes → y < length nodes → get_or p x 0 ≡ get_or p y 0
      → label_at nodes x ≡ label_at nodes y
  above : (q : List ℕ) → Agrees nodes q → Refines (length nodes) q p

module _ (nodes : List CType) (i : RefersWithin (length nodes) nodes) where
  -- the class of a node and those of its targets
  abbrev key : List ℕ → ℕ → List ℕ
  key p x = code_by (get_or p x 0) (Some (classes_of p (targets_at nodes x)))

  module _ (p new : List ℕ) (b : IsAboveAll nodes p)
      (n : IsNumbering (key p) (length nodes) new) where
    same_key : (x y : ℕ) → x < length nodes → y < length nodes → get_or new x 0 ≡ get_or new y 0
        → (get_or p x 0 ≡ get_or p y 0)
        × (Some (classes_of p (targets_at nodes x)) ≡ Some (classes_of p (targets_at nodes y)))
    same_key x y hx hy e = code_by-injective (get_or p x 0) (get_or p y 0)
        (Some (classes_of p (targets_at nodes x))) (Some (classes_of p (targets_at nodes y)))
        ((n.same x y hx hy).0 e)

    splits : Refines (length p) new p
    splits = record {
      related = λ x y hx hy e.
          let l = b.covers in (same_key x y (omega arith) (omega arith) e).0;
    }

    lengths : length p ≡ length new
    lengths = b.covers ∙ sym n.covers

    more : distinct_count eqb p ≤ distinct_count eqb new
    more = count-le p new lengths splits

    above_round : IsAboveAll nodes new
    above_round = record {
      covers = n.covers;
      labels = λ x y hx hy e. b.labels x y hx hy (same_key x y hx hy e).0;
      above = λ q a. record {
        related = λ x y hx hy e.
            let c : get_or p x 0 ≡ get_or p y 0 = (b.above q a).related x y hx hy e in
            let ts = classes_of-coarser (length nodes) q p (b.above q a) (targets_at nodes x)
            (targets_at nodes y) (targets_at-below (length nodes) nodes i x)
            (targets_at-below (length nodes) nodes i y) (a.licensed x y hx hy e).targets in
            (n.same x y hx hy).1 (λ j. code_by (c j) (Some (ts j)));
      };
    }

    coarsest : distinct_count eqb new ≡ distinct_count eqb p → IsCoarsest nodes p
    coarsest e = record {
      agrees = record {
        covers = b.covers;
        licensed = λ x y hx hy h.
            let l = b.covers in
            let r : Refines (length p) p new =
            Refines-from_count p new lengths splits (omega arith) in
            let s = same_key x y hx hy (r.related x y (omega arith) (omega arith) h) in
            record { labels = b.labels x y hx hy h; targets = same_Some _ _ s.1 };
      };
      coarsest = b.above;
    }

  next : (p : List ℕ) → (v : List ℕ) × IsNumbering (key p) (length nodes) v
  next p = numbering (pointwise eqb) bytes_decides (key p) (length nodes)

  -- as many more rounds as there can be more classes
  from_round : (k : ℕ) (p : List ℕ) → IsAboveAll nodes p
      → length nodes ≤ k + distinct_count eqb p → (c : List ℕ) × IsCoarsest nodes c
  from_round zero p b room =
      let le = more p (next p).0 b (next p).1 in
      let few = IsNumbering-within (length nodes) (next p).0 (next p).1.covers in
      (p, coarsest p (next p).0 b (next p).1 (omega arith))
  from_round (suc k) p b room = ⊎_elim
      (λ e. (p, coarsest p (next p).0 b (next p).1 e))
      (λ ne. let le = more p (next p).0 b (next p).1 in
      from_round k (next p).0 (above_round p (next p).0 b (next p).1) (omega arith))
      (cases_eq (distinct_count eqb (next p).0) (distinct_count eqb p))

  pub plain_exists : (p : List ℕ) × IsCoarsest nodes p
  plain_exists =
      let n = numbering same_label_at label_at_decides (label_at nodes) (length nodes) in
      from_round (length nodes) n.0 (record {
        covers = n.1.covers;
        labels = λ x y hx hy e. (n.1.same x y hx hy).0 e;
        above = λ q a. record {
          related = λ x y hx hy e. (n.1.same x y hx hy).1 (a.licensed x y hx hy e).labels;
        };
      }) (omega arith)
