-- The working form of finding sizes: ways from type to type, and what is known of sizes on the way.
use Rattle.std.specs.Prelude.{◌≡◌, ◌⊎◌, ℕ, List, [], ◌∷◌, Option, Some, None, length, slice_get}
use Rattle.std.specs.Option.{option_and_then, option_flatten}
use Rattle.c_model.specs.declared.graph.CType.{CType}
use Rattle.c_model.specs.declared.graph.Ref.{Ref}
use Rattle.c_model.specs.declared.graph.Ref.TheVariants.{Void, Node}
use Rattle.btf_codec.specs.Fields.{target_at}
use Rattle.layout_printer.specs.Sizes.{checked_size, size_by, size_of, size_rule}
use Rattle.layout_printer.specs.declared.sizes.SizeRule.{SizeRule}
use Rattle.layout_printer.specs.declared.sizes.SizeRule.TheVariants.{Stated, Pointer, Elements}
use Rattle.layout_printer.specs.declared.sizes.SizeRule.TheVariants.{Target, Unsized}
use Rattle.layout_printer.specs.declared.finding.Way.{Way}

-- the type that a type has its size from; void where it has it from none
abbrev pub behind_by : SizeRule → CType → Ref
behind_by Stated t = Void
behind_by Pointer t = Void
behind_by Elements t = target_at t.targets 0
behind_by Target t = target_at t.targets 0
behind_by Unsized t = Void

abbrev pub behind : CType → Ref
behind t = behind_by (size_rule t.label.kind) t

-- the size of a type, given that of the type behind it
abbrev pub size_over : ℕ → Option ℕ → CType → Option ℕ
size_over pointer o t =
    option_and_then checked_size (size_by (λ _. o) pointer (size_rule t.label.kind) t)

-- the number of what a reference is to, where nothing is known of its size
abbrev pub if_unknown : ℕ → Option (Option (Option ℕ)) → Option ℕ
if_unknown y None = None
if_unknown y (Some None) = Some y
if_unknown y (Some (Some o)) = None

abbrev pub unknown_at : List (Option (Option ℕ)) → Ref → Option ℕ
unknown_at found Void = None
unknown_at found (Node y) = if_unknown y (slice_get found y)

-- the size of what a reference is to, as far as it is known
abbrev pub known_size : List (Option (Option ℕ)) → Ref → Option ℕ
known_size found Void = None
known_size found (Node y) = option_flatten (option_flatten (slice_get found y))

-- the size of what a reference is to, among those of all types
abbrev pub size_at : List (Option ℕ) → Ref → Option ℕ
size_at sizes Void = None
size_at sizes (Node y) = option_flatten (slice_get sizes y)

-- a type is one of a path
abbrev pub IsOn : ℕ → List ℕ → Type 0
IsOn y [] = ⊥
IsOn y (x ∷ xs) = (y ≡ x) ⊎ IsOn y xs

-- the type behind one
pub record IsLink (types : List CType) (y : ℕ) (next : Ref) : Type 0 where
  pub t : CType
  pub here : slice_get types y ≡ Some t
  pub leads : behind t ≡ next

abbrev pub first_on : List ℕ → Ref → Ref
first_on [] at = at
first_on (y ∷ ys) at = Node y

-- behind each type of a path is the next one, and behind the last is `at`
abbrev pub IsChain : List CType → List ℕ → Ref → Type 0
IsChain types [] at = Unit {0}
IsChain types (y ∷ ys) at = IsLink types y (first_on ys at) × IsChain types ys at

-- each size that is known is the type's, but for the types of a path
pub record AreFound (types : List CType) (pointer : ℕ) (path : List ℕ)
    (found : List (Option (Option ℕ))) : Type 0 where
  pub covers : length found ≡ length types
  pub right : (y : ℕ) (o : Option ℕ) → slice_get found y ≡ Some (Some o)
      → (o ≡ size_of types pointer (Node y)) ⊎ IsOn y path

-- a way, with the size of what is behind its last type
pub record IsWay (types : List CType) (pointer : ℕ) (found : List (Option (Option ℕ)))
    (way : Way) : Type 0 where
  pub at : Ref
  pub chain : IsChain types way.path.items at
  pub size : way.size ≡ size_of types pointer at
  pub right : AreFound types pointer way.path.items found

-- something is known of a type's size
abbrev pub IsKnown : List (Option (Option ℕ)) → ℕ → Type 0
IsKnown found y = (o : Option ℕ) × (slice_get found y ≡ Some (Some o))

-- what is known stays known
abbrev pub StaysKnown : List (Option (Option ℕ)) → List (Option (Option ℕ)) → Type 0
StaysKnown old new = (y : ℕ) → IsKnown old y → IsKnown new y
