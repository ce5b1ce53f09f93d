-- What is known of the tags of nodes from their labels.
use Rattle.std.specs.Prelude.{◌≡◌, ℕ, List, Option, Some, None, slice_get}
use Rattle.c_model.specs.Partition.{label_at}
use Rattle.c_model.specs.Forwards.{Tag, declaration_at, definition_at}
use Rattle.c_model.specs.declared.graph.CType.{CType}
use Rattle.forward_rule.specs.Tags.{key_of_tag}
use Rattle.forward_rule.specs.declared.gather.Tagged.{Tagged}
use Rattle.forward_rule.specs.declared.gather.Tagged.TheVariants.{Untagged, Defines, Declares}

-- node x has no tag, or it defines or declares the tag whose key has place p
abbrev pub Says : List CType → List (List ℕ) → ℕ → Tagged → Type 0
Says nodes keys x Untagged = (definition_at nodes x ≡ None) × (declaration_at nodes x ≡ None)
Says nodes keys x (Defines p) =
    (tag : Tag) × (definition_at nodes x ≡ Some tag) × (slice_get keys p ≡ Some (key_of_tag tag))
Says nodes keys x (Declares p) =
    (tag : Tag) × (declaration_at nodes x ≡ Some tag) × (slice_get keys p ≡ Some (key_of_tag tag))

-- t is known of the labels of number n
abbrev pub IsKnown : List (Option Tagged) → ℕ → Tagged → Type 0
IsKnown known n t = slice_get known n ≡ Some (Some t)

-- what is known of a number holds of each node that has it
abbrev pub Remembers : List CType → List (List ℕ) → List ℕ → List (Option Tagged) → Type 0
Remembers nodes keys numbers known = (x n : ℕ) (t : Tagged) → slice_get numbers x ≡ Some n
    → IsKnown known n t → Says nodes keys x t

-- nodes of one number have one label
abbrev pub TellsLabels : List CType → List ℕ → Type 0
TellsLabels nodes numbers = (x y n : ℕ) → slice_get numbers x ≡ Some n
    → slice_get numbers y ≡ Some n → label_at nodes x ≡ label_at nodes y
