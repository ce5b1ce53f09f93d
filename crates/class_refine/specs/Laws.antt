-- Laws of the coarsest partition and of joins.
use Rattle.std.specs.Prelude.{ℕ, List, length}
use Rattle.c_model.specs.Graph.{Shape, IsSound, RefersWithin}
use Rattle.c_model.specs.Partition.{Refines, Agrees, IsCoarsest}
use Rattle.c_model.specs.Forwards.{IsIndexOf, IsForwardIndex, HasFittingForwards, AgreesWith}
use Rattle.c_model.specs.Forwards.{IsCoarsestWith, KeepsForwards}
use Rattle.c_model.specs.declared.graph.CType.{CType}

-- each list of nodes has a coarsest plain agreement
abbrev pub PlainCoarsestExists : Type 0
PlainCoarsestExists = (nodes : List CType) → RefersWithin (length nodes) nodes
    → (p : List ℕ) × IsCoarsest nodes p

-- each graph has an index of its open forwards
abbrev pub ForwardIndexExists : Type 0
ForwardIndexExists =
    (g : Shape) → IsSound g.base g.nodes → (index : List (List ℕ)) × IsForwardIndex g index

-- each graph has a coarsest agreeing partition under each index, and it keeps open forwards with
-- definitions of one class
abbrev pub CoarsestExists : Type 0
CoarsestExists = (g : Shape) (index : List (List ℕ)) → RefersWithin (length g.nodes) g.nodes
    → IsIndexOf g index → HasFittingForwards g
    → (p : List ℕ) × IsCoarsestWith g index p × KeepsForwards g index p

-- a partition is the join of two: both refine it, and it refines each partition that both refine
pub record IsJoin (n : ℕ) (p q r : List ℕ) : Type 0 where
  pub first : Refines n p r
  pub second : Refines n q r
  pub least : (s : List ℕ) → Refines n p s → Refines n q s → Refines n r s

-- two plain agreements have a join that is one
abbrev pub PlainJoinAgrees : Type 0
PlainJoinAgrees = (nodes : List CType) (p q : List ℕ) → RefersWithin (length nodes) nodes
    → Agrees nodes p → Agrees nodes q → (r : List ℕ) × Agrees nodes r × IsJoin (length nodes) p q r

-- two agreeing partitions have a join that agrees
abbrev pub JoinAgrees : Type 0
JoinAgrees = (g : Shape) (index : List (List ℕ)) (p q : List ℕ)
    → RefersWithin (length g.nodes) g.nodes → IsIndexOf g index → HasFittingForwards g
    → AgreesWith g index p → AgreesWith g index q
    → (r : List ℕ) × AgreesWith g index r × IsJoin (length g.nodes) p q r
