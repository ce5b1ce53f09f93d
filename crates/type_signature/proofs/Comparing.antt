-- Where each node has targets of the same classes as another of its number, no class is split.
use Rattle.std.proofs.Common.{◌≡◌, ◌<◌, ℕ, List, Some, None, cond, map, length, get_or, sym, ◌∙◌}
use Rattle.std.proofs.Common.{ap}
use Rattle.c_model.specs.declared.graph.CType.{CType}
use Rattle.c_model.specs.Partition.{classes_of, targets_at}
use Rattle.packed_graph.specs.Packed.{ref_of}
use Rattle.packed_graph.proofs.Pushing.{refs_of-words}
use Rattle.type_signature.specs.Links.{AreLinks, targets_by}
use Rattle.type_signature.specs.Settling.{targets_under, IsSettled}
use Rattle.type_signature.specs.Signatures.{is_open_at}

module _ (nodes : List CType) (index : List (List ℕ)) (ends words p : List ℕ)
    (l : AreLinks nodes ends words) where
  -- the classes of a node's targets, by its words
  targets_by-under : (x : ℕ) → x < length nodes
      → targets_by index ends words p x ≡ targets_under nodes index p x
  targets_by-under x h = ap (λ ts. cond (is_open_at index x) None (Some (classes_of p ts)))
      (ap (map ref_of) (l.at x h) ∙ refs_of-words (targets_at nodes x))

  -- each node is compared with one that its number tells
  pub IsSettled-compared : (raw firsts : List ℕ) → ((x : ℕ) → x < length nodes
      → targets_by index ends words p x
      ≡ targets_by index ends words p (get_or firsts (get_or raw x 0) 0))
      → IsSettled nodes index raw p
  IsSettled-compared raw firsts h = record {
    same = λ x y hx hy e. sym (targets_by-under x hx) ∙ (h x hx
        ∙ (ap (λ k. targets_by index ends words p (get_or firsts k 0)) e
        ∙ (sym (h y hy) ∙ targets_by-under y hy)));
  }
