-- The references of joined graphs are in range.
use Rattle.std.proofs.Common.{◌≡◌, ◌≤◌, ◌+◌, ◌++◌, ℕ, List, map, take, length, get_or, refl, ◌∙◌}
use Rattle.std.proofs.Common.{ap, arith}
use Rattle.std.specs.List.{All}
use Rattle.std.proofs.lemmas.List.Elements.{All-append, All-map}
use Rattle.std.proofs.lemmas.List.{length-append, length-map}
use Rattle.std.proofs.Math.Seq.{take-append_seam}
use Rattle.c_model.specs.Graph.{IsBelow, RefersWithin}
use Rattle.c_model.specs.declared.graph.CType.{CType}
use Rattle.c_model.specs.declared.graph.Ref.{Ref}
use Rattle.c_model.specs.declared.graph.Ref.TheVariants.{Void, Node}
use Rattle.packed_graph.specs.Packed.{moved as moved_behind, moved_by}
use Rattle.split_base.specs.Graphs.{moved, moved_type, joined}

-- a reference in range stays so where there are more nodes
below_more : (n m : ℕ) → n ≤ m → (t : Ref) → IsBelow n t → IsBelow m t
below_more n m h Void b = tt
below_more n m h (Node x) b = omega arith

pub within_more : (n m : ℕ) → n ≤ m → (nodes : List CType) → RefersWithin n nodes
    → RefersWithin m nodes
within_more n m h nodes r k d lt k' d' lt' = below_more n m h _ (r k d lt k' d' lt')

-- a moved reference is in range of all
moved_below : (b n : ℕ) → (t : Ref) → IsBelow n t → IsBelow (b + n) (moved b t)
moved_below b n Void h = tt
moved_below b n (Node x) h = omega arith

moved_within : (b n : ℕ) → (nodes : List CType) → RefersWithin n nodes
    → RefersWithin (b + n) (map (moved_type b) nodes)
moved_within b n nodes r = All-map (λ (t : CType). All (IsBelow (b + n)) t.targets)
    (moved_type b) nodes (λ k d lt. All-map (IsBelow (b + n)) (moved b) (get_or nodes k d).targets
    (λ k' d' lt'. moved_below b n _ (r k d lt k' d' lt')))

pub length-joined : (types nodes : List CType)
    → length (joined types nodes) ≡ length types + length nodes
length-joined types nodes = length-append types (map (moved_type (length types)) nodes)
    ∙ ap (λ n. length types + n) (length-map nodes (moved_type (length types)))

-- the joined graph's references are in range
pub joined_within : (types nodes : List CType) → RefersWithin (length types) types → RefersWithin
    (length nodes) nodes → RefersWithin (length (joined types nodes)) (joined types nodes)
joined_within types nodes t n =
    let whole : ℕ = length types + length nodes in
    within_more whole (length (joined types nodes)) (omega (arith, length-joined types nodes))
    (joined types nodes) (All-append (λ (c : CType). All (IsBelow whole) c.targets) types (map
    (moved_type (length types)) nodes) (within_more (length types) whole (omega arith) types t)
    (moved_within (length types) (length nodes) nodes n))

-- and those of its base nodes in range of these
pub base_of_joined : (types nodes : List CType) → take (length types) (joined types nodes) ≡ types
base_of_joined types nodes = take-append_seam types (map (moved_type (length types)) nodes)

moved-same : (k : ℕ) (r : Ref) → moved_behind k r ≡ moved k r
moved-same k Void = refl
moved-same k (Node x) =
    let e : x + k ≡ k + x = omega arith in
    ap Node e

-- nodes that are moved in a packed list are moved
pub moved_by-moved_type : (k : ℕ) (nodes : List CType) → moved_by k nodes ≡ map (moved_type k) nodes
moved_by-moved_type k nodes =
    λ i. map (λ (t : CType).
    record { label = t.label; targets = map (λ (r : Ref). moved-same k r i) t.targets }) nodes

-- a packed list of types, and behind it nodes that are moved, are the joined ones
pub joined-packed : (types nodes first own all : List CType) → first ≡ types → own ≡ nodes
    → all ≡ first ++ moved_by (length first) own → all ≡ joined types nodes
joined-packed types nodes first own all f o a =
    a ∙ ap (λ (ts : List CType). ts ++ moved_by (length ts) own) f
    ∙ ap (λ (ns : List CType). types ++ moved_by (length types) ns) o
    ∙ ap (λ (ns : List CType). types ++ ns) (moved_by-moved_type (length types) nodes)
