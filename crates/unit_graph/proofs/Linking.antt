-- Linking nodes one after the other.
use Rattle.std.proofs.Common.{◌≡◌, ℕ, ◌+◌, ◌<◌, ◌≤◌, List, [], ◌∷◌, ◌++◌, length, drop, get_or}
use Rattle.std.proofs.Common.{Result, Ok, Err, refl, sym, ap, ◌∙◌}
use Rattle.std.proofs.lemmas.List.{drop_more, drop_all}
use Rattle.c_model.specs.declared.graph.CType.{CType}
use Rattle.c_model.specs.declared.graph.Ref.{Ref}
use Rattle.type_attributes.specs.declared.source.Target.{Target}
use Rattle.unit_graph.specs.declared.links.Out.{Out}
use Rattle.unit_graph.specs.Links.{ref_of, with_ref, refs_from, with_refs, nodes_from}
use Rattle.unit_graph.specs.Sources.{Source}

-- references
one_ref : (all : List Source) (file index : ℕ) (ts : List Target) (i : ℕ) (seen : List Ref)
    (d : Target) → i < length ts
    → refs_from all file index seen (drop i ts) ≡ with_ref seen (ref_of all file index
    (get_or ts i d)) (λ more. refs_from all file index more (drop (i + 1) ts))
unfolding refs_from
one_ref all file index ts i seen d lt = rw (drop_more ts i d lt) refl

pub refs_go_on : (all : List Source) (file index : ℕ) (ts : List Target) (i : ℕ)
    (seen more : List Ref) (d : Target) (r : Ref) (total : Result (List Ref) Out) → i < length ts
    → Ok r ≡ ref_of all file index (get_or ts i d) → more ≡ seen ++ r ∷ []
    → refs_from all file index seen (drop i ts) ≡ total
    → refs_from all file index more (drop (i + 1) ts) ≡ total
refs_go_on all file index ts i seen more d r total lt found made h =
    ap (λ (rs : List Ref). refs_from all file index rs (drop (i + 1) ts)) made
    ∙ sym (one_ref all file index ts i seen d lt ∙ ap (λ (x : Result Ref Out).
    with_ref seen x (λ more. refs_from all file index more (drop (i + 1) ts))) (sym found)) ∙ h

pub refs_stop : (all : List Source) (file index : ℕ) (ts : List Target) (i : ℕ) (seen : List Ref)
    (d : Target) (o : Out) (total : Result (List Ref) Out) → i < length ts
    → Err o ≡ ref_of all file index (get_or ts i d)
    → refs_from all file index seen (drop i ts) ≡ total → Err o ≡ total
refs_stop all file index ts i seen d o total lt found h =
    sym (one_ref all file index ts i seen d lt ∙ ap (λ (x : Result Ref Out).
    with_ref seen x (λ more. refs_from all file index more (drop (i + 1) ts))) (sym found)) ∙ h

pub refs_end : (all : List Source) (file index : ℕ) (ts : List Target) (i : ℕ) (seen : List Ref)
    (total : Result (List Ref) Out) → length ts ≤ i
    → refs_from all file index seen (drop i ts) ≡ total → Ok seen ≡ total
unfolding refs_from
refs_end all file index ts i seen total le h =
    sym (ap (refs_from all file index seen) (drop_all i ts le)) ∙ h

-- nodes
one_node : (all : List Source) (seen : List CType) (s : Source) (old rest : List Source)
    → old ≡ s ∷ rest → nodes_from all seen old ≡ with_refs s seen
    (refs_from all s.file s.index [] s.targets) (λ more. nodes_from all more rest)
unfolding nodes_from
one_node all seen s old rest took = rw took refl

pub nodes_go_on : (all : List Source) (seen more : List CType) (s : Source) (old rest : List Source)
    (rs : List Ref) (total : Result (List CType) Out) → old ≡ s ∷ rest
    → Ok rs ≡ refs_from all s.file s.index [] s.targets
    → more ≡ seen ++ record { label = s.label; targets = rs } ∷ []
    → nodes_from all seen old ≡ total → nodes_from all more rest ≡ total
nodes_go_on all seen more s old rest rs total took found made h =
    ap (λ (ns : List CType). nodes_from all ns rest) made
    ∙ sym (one_node all seen s old rest took ∙ ap (λ (x : Result (List Ref) Out).
    with_refs s seen x (λ more. nodes_from all more rest)) (sym found)) ∙ h

pub nodes_stop : (all : List Source) (seen : List CType) (s : Source) (old rest : List Source)
    (o : Out) (total : Result (List CType) Out) → old ≡ s ∷ rest → Err o
    ≡ refs_from all s.file s.index [] s.targets → nodes_from all seen old ≡ total → Err o ≡ total
nodes_stop all seen s old rest o total took found h =
    sym (one_node all seen s old rest took ∙ ap (λ (x : Result (List Ref) Out).
    with_refs s seen x (λ more. nodes_from all more rest)) (sym found)) ∙ h

pub nodes_end : (all : List Source) (seen : List CType) (old : List Source)
    (total : Result (List CType) Out) → old ≡ [] → nodes_from all seen old ≡ total → Ok seen ≡ total
unfolding nodes_from
nodes_end all seen old total none h = sym (rw none refl) ∙ h
