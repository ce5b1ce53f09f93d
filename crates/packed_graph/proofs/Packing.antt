-- Nodes packed one by one.
use Rattle.std.proofs.Common.{◌≡◌, ◌<◌, ◌+◌, ◌-◌, ◌^◌, ℕ, List, [], ◌∷◌, ◌++◌, Some, All, length}
use Rattle.std.proofs.Common.{take, get_or, sym, ◌∙◌, ap, arith}
use Rattle.std.specs.List.{slice_get}
use Rattle.std.proofs.lemmas.Option.{slice_get_within, get_or_from_slice_get}
use Rattle.c_model.specs.declared.label.Label.{Label}
use Rattle.c_model.specs.declared.graph.CType.{CType}
use Rattle.c_model.specs.declared.graph.Ref.{Ref}
use Rattle.c_model.specs.declared.graph.Ref.TheVariants.{Void, Node}
use Rattle.c_model.specs.Graph.{IsBelow, RefersWithin}
use Rattle.c_model.proofs.Taking.{take-read}

raised : (n : ℕ) → n < 2 ^ 32 → (r : Ref) → IsBelow n r → IsBelow (2 ^ 32 - 1) r
raised n few Void h = tt
raised n few (Node a) h = omega (arith, few, h)

-- the references of a node of a graph
pub targets-below : (nodes : List CType) → length nodes < 2 ^ 32 → RefersWithin (length nodes) nodes
    → (x : ℕ) (t : CType) → slice_get nodes x ≡ Some t → (ts : List Ref) → ts ≡ t.targets
    → All (IsBelow (2 ^ 32 - 1)) ts
targets-below nodes few within x t at ts same i z lt =
    let e : get_or nodes x t ≡ t = get_or_from_slice_get nodes x t t at in
    let all : All (IsBelow (length nodes)) t.targets =
    rw e at (within x t (slice_get_within nodes x t at)) in
    raised (length nodes) few (get_or ts i z) ((rw (← same) at all) i z lt)

-- one more node
pub pushed-node : (nodes : List CType) (x : ℕ) (t : CType) (l : Label) (ts : List Ref)
    (old new : List CType) → slice_get nodes x ≡ Some t → l ≡ t.label → ts ≡ t.targets → old
    ≡ take x nodes → new ≡ old ++ record { label = l; targets = ts } ∷ [] → new ≡ take (x + 1) nodes
pushed-node nodes x t l ts old new at a b o n =
    let e : ◌≡◌ {A = CType} (record { label = l; targets = ts }) t =
    λ i. record { label = a i; targets = b i } in
    n ∙ (ap (λ us. us ++ record { label = l; targets = ts } ∷ []) o
    ∙ (ap (λ u. take x nodes ++ u ∷ []) e ∙ sym (take-read nodes x t at)))
