-- Nodes as the types of a table.
use Rattle.std.proofs.Common.{◌≡◌, ◌<◌, ◌+◌, ◌++◌, ℕ, List, [], ◌∷◌, Option, Some, take, map}
use Rattle.std.proofs.Common.{length, get_or, refl, sym, ◌∙◌, ap}
use Rattle.std.specs.List.{cons_option, filter_map, slice_get, slice_index}
use Rattle.std.specs.Option.{option_map}
use Rattle.std.proofs.lemmas.List.{map-append, take_more}
use Rattle.std.proofs.lemmas.List.Elements.{filter_map-append}
use Rattle.c_model.specs.Graph.{Shape}
use Rattle.c_model.specs.Partition.{label_at, targets_at}
use Rattle.c_model.specs.declared.label.Label.{Label}
use Rattle.c_model.specs.declared.graph.CType.{CType}
use Rattle.c_model.specs.declared.graph.Ref.{Ref}
use Rattle.c_model.proofs.Taking.{take-read}
use Rattle.packed_graph.proofs.Unpacking.{node-read}
use Rattle.split_base.specs.Building.{type_by}
use Rattle.split_base.specs.Table.{renamed, renamed_type}

-- what comes of one element more is kept
pub filter_map-take_more : (f : ℕ → Option CType) (xs : List ℕ) (i : ℕ) (t : CType) → i < length xs
    → f (get_or xs i 0) ≡ Some t
    → filter_map f (take (i + 1) xs) ≡ filter_map f (take i xs) ++ t ∷ []
filter_map-take_more f xs i t lt is =
    ap (filter_map f) (take_more xs i 0 lt)
    ∙ filter_map-append f (take i xs) (get_or xs i 0 ∷ [])
    ∙ ap (λ (u : Option CType). filter_map f (take i xs) ++ cons_option u []) is

-- a node as a type of the table is its label, and its targets as the types of their classes
pub type_by-read : (g : Shape) (places : List ℕ) (x : ℕ) (l : Label) (ts : List Ref)
    → label_at g.nodes x ≡ Some l
    → ts ≡ map (renamed (slice_index places)) (targets_at g.nodes x)
    → type_by g places x ≡ Some (record { label = l; targets = ts })
type_by-read g places x l ts label targets =
    ap (option_map (renamed_type (slice_index places)))
    (node-read g.nodes x l (targets_at g.nodes x) label refl)
    ∙ ap (λ (us : List Ref). Some (record { label = l; targets = us })) (sym targets)

-- one target more is renamed
pub map-take_more : (f : Ref → Ref) (ts : List Ref) (i : ℕ) (t r : Ref) (old new : List Ref)
    → slice_get ts i ≡ Some t → r ≡ f t
    → old ≡ map f (take i ts) → new ≡ old ++ r ∷ [] → new ≡ map f (take (i + 1) ts)
map-take_more f ts i t r old new at is o n =
    n ∙ ap (λ (us : List Ref). us ++ r ∷ []) o
    ∙ ap (λ (u : Ref). map f (take i ts) ++ u ∷ []) is
    ∙ sym (ap (map f) (take-read ts i t at) ∙ map-append f (take i ts) (t ∷ []))
