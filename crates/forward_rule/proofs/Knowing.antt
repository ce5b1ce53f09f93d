-- What is known of nodes from their labels, while keys get their places.
use Rattle.std.proofs.Common.{◌≡◌, ◌<◌, ◌+◌, ℕ, List, [], ◌∷◌, ◌++◌, Option, Some, get_or}
use Rattle.std.proofs.Common.{length, sym, ◌∙◌, ap, ◌⊎◌, ⊎_elim}
use Rattle.std.specs.Prelude.{slice_set}
use Rattle.std.specs.List.{slice_get}
use Rattle.std.specs.Option.{option_and_then}
use Rattle.std.proofs.lemmas.Option.{none-some, slice_get_within}
use Rattle.c_model.specs.Partition.{label_at}
use Rattle.c_model.specs.Graph.{Shape}
use Rattle.c_model.specs.Forwards.{declared_tag, defined_tag}
use Rattle.c_model.specs.declared.graph.CType.{CType}
use Rattle.c_model.proofs.Licences.{not_both}
use Rattle.forward_rule.specs.Tags.{key_of_tag}
use Rattle.forward_rule.specs.Gathered.{Grows, Holds}
use Rattle.forward_rule.specs.Known.{Says, Remembers, TellsLabels, IsKnown}
use Rattle.forward_rule.proofs.Gathering.{Holds-pass, Holds-added}
use Rattle.forward_rule.specs.declared.gather.Tagged.{Tagged}
use Rattle.forward_rule.specs.declared.gather.Tagged.TheVariants.{Untagged, Defines, Declares}

pub Says-grown : (nodes : List CType) (old new : List (List ℕ)) (x : ℕ) (t : Tagged)
    → Grows old new → Says nodes old x t → Says nodes new x t
Says-grown nodes old new x Untagged grows s = s
Says-grown nodes old new x (Defines p) grows s = (s.0, s.1, grows p (key_of_tag s.0) s.2)
Says-grown nodes old new x (Declares p) grows s = (s.0, s.1, grows p (key_of_tag s.0) s.2)

-- nodes of one label say the same
pub Says-same_label : (nodes : List CType) (keys : List (List ℕ)) (x y : ℕ) (t : Tagged)
    → label_at nodes x ≡ label_at nodes y → Says nodes keys x t → Says nodes keys y t
Says-same_label nodes keys x y Untagged e s = (
  ap (option_and_then defined_tag) (sym e) ∙ s.0,
  ap (option_and_then declared_tag) (sym e) ∙ s.1,
)
Says-same_label nodes keys x y (Defines p) e s =
    (s.0, ap (option_and_then defined_tag) (sym e) ∙ s.1, s.2)
Says-same_label nodes keys x y (Declares p) e s =
    (s.0, ap (option_and_then declared_tag) (sym e) ∙ s.1, s.2)

-- what a node says is known of its number from then on
pub Remembers-noted : (nodes : List CType) (old new : List (List ℕ)) (numbers : List ℕ)
    (known noted : List (Option Tagged)) (x : ℕ) (tagged : Tagged) → TellsLabels nodes numbers
    → Remembers nodes old numbers known → Grows old new → Says nodes new x tagged
    → ((n : ℕ) (t : Tagged) → IsKnown noted n t
    → IsKnown known n t ⊎ ((slice_get numbers x ≡ Some n) × (t ≡ tagged)))
    → Remembers nodes new numbers noted
Remembers-noted nodes old new numbers known noted x tagged tells r grows says split y n t at is =
    ⊎_elim (λ k. Says-grown nodes old new y t grows (r y n t at k))
    (λ k. rw k.1 (Says-same_label nodes new x y tagged (tells x y n k.0 at) says)) (split n t is)

module _ (g : Shape) (x : ℕ) (keys groups : List (List ℕ)) (t : Tagged)
    (says : Says g.nodes keys x t) where
  pub place_of-Defines : (p : ℕ) → t ≡ Defines p → p < length keys
  place_of-Defines p e =
      let s = rw e at says in slice_get_within keys p (key_of_tag s.0) s.2

  pub place_of-Declares : (p : ℕ) → t ≡ Declares p → p < length keys
  place_of-Declares p e =
      let s = rw e at says in slice_get_within keys p (key_of_tag s.0) s.2

  module _ (h : Holds g x keys groups) where
    pub Holds-untagged : t ≡ Untagged → Holds g (x + 1) keys groups
    Holds-untagged e =
        let s = rw e at says in
        Holds-pass g x keys groups h (λ tag d. none-some tag (sym s.0 ∙ d))

    pub Holds-declared : (p : ℕ) → t ≡ Declares p → Holds g (x + 1) keys groups
    Holds-declared p e =
        let s = rw e at says in
        Holds-pass g x keys groups h (λ tag d. not_both g.nodes x s.0 tag s.1 d)

    pub Holds-defined : (p : ℕ) → t ≡ Defines p
        → Holds g (x + 1) keys (slice_set groups p (get_or groups p [] ++ x ∷ []))
    Holds-defined p e =
        let s = rw e at says in Holds-added g x keys groups h s.0 p s.2 s.1
