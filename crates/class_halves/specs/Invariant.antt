-- What is true of the parts whenever none is being taken up, and how often the references to a node
-- were looked at.
use Rattle.std.specs.Prelude.{◌<◌, ◌≤◌, ◌+◌, ◌*◌, ◌^◌, ℕ, Bool, List, length}
use Rattle.c_model.specs.Graph.{Shape}
use Rattle.c_model.specs.declared.graph.CType.{CType}
use Rattle.class_halves.specs.Parts.{Waits, part_of, IsStable, Nothing, no_node, HaveEqualLabels}
use Rattle.class_halves.specs.Parts.{HaveEqualPatterns, AgreeingRefineParts, ForwardsStayTogether}
use Rattle.class_halves.specs.Halving.{part_size}
use Rattle.class_halves.specs.Looks.{references_to}
use Rattle.class_halves.specs.Sums.{sum_all}

-- every agreeing partition refines the parts; two nodes of one class that are no open forwards have
-- equal labels and void patterns, and where their targets at a position are in two parts, one of
-- these waits; open forwards of a tag are in one part, alone or with all their definitions
pub record HoldsBetween (g : Shape) (index : List (List ℕ)) (raw : List ℕ)
    (flags : List Bool) : Type 0 where
  pub refined : AgreeingRefineParts g index raw
  pub labels : HaveEqualLabels g index raw
  pub patterns : HaveEqualPatterns g index raw
  pub stable : IsStable g index raw flags Nothing no_node
  pub forwards : ForwardsStayTogether g index raw

-- where the references to a node were looked at k times, 2^k times the size of its part is at most
-- twice the number n of all nodes, and at most n while the part waits; each look costs at most two
-- steps
pub record HasLooks (index : List (List ℕ)) (n : ℕ) (raw : List ℕ) (flags : List Bool)
    (nodes : List CType) (before now : ℕ) : Type 0 where
  pub looks : ℕ → ℕ
  pub few : (x : ℕ) → x < n → 2 ^ looks x * part_size index raw n (part_of index raw x) ≤ 2 * n
  pub idle : (x : ℕ) → x < n → Waits flags (part_of index raw x)
      → 2 ^ looks x * part_size index raw n (part_of index raw x) ≤ n
  pub paid : now ≤ before + 2 * sum_all (λ x. looks x * length (references_to nodes x)) n
