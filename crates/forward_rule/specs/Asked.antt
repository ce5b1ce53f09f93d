-- Groups that tag numbers of nodes ask for.
use Rattle.std.specs.Prelude.{◌≡◌, ◌<◌, ◌+◌, ℕ, Bool, true, false, List, [], All, length}
use Rattle.std.specs.Prelude.{slice_index_or}
use Rattle.forward_rule.specs.Kept.{group_at}

-- a tag number below count is marked
abbrev pub IsAskedFor : ℕ → List Bool → ℕ → Type 0
IsAskedFor count asked t = t < count → slice_index_or asked t false ≡ true

-- as many groups, and the same ones where their tag numbers are marked
pub record KeepsAsked (asked : List Bool) (groups kept : List (List ℕ)) : Type 0 where
  pub covers : length kept ≡ length groups
  pub at : (i : ℕ) → i < length groups → slice_index_or asked (i + 1) false ≡ true
      → slice_index_or kept i [] ≡ slice_index_or groups i []

-- as many groups, and the same one for each of the tag numbers
pub record AgreeWhereAsked (tags : List ℕ) (groups kept : List (List ℕ)) : Type 0 where
  pub covers : length kept ≡ length groups
  pub at : All (λ t. group_at kept t ≡ group_at groups t) tags
