-- The references of linked nodes are to nodes, and there are as many nodes as sources.
use Rattle.std.proofs.Common.{◌≡◌, ℕ, zero, suc, ◌+◌, ◌<◌, ◌^◌, nat_lt, Bool, true, false, List, []}
use Rattle.std.proofs.Common.{◌∷◌, ◌++◌, length, Option, None, Some, Result, Ok, Err, if◌then◌else◌}
use Rattle.std.proofs.Common.{refl, sym, ap, subst, ◌∙◌, arith}
use Rattle.std.specs.Prelude.{All}
use Rattle.std.proofs.lemmas.Bool.{ltb-true}
use Rattle.std.proofs.lemmas.List.{length_push}
use Rattle.std.proofs.lemmas.List.Elements.{All-append}
use Rattle.c_model.specs.Graph.{IsBelow, RefersWithin}
use Rattle.c_model.specs.declared.graph.CType.{CType}
use Rattle.c_model.specs.declared.graph.Ref.{Ref}
use Rattle.c_model.specs.declared.graph.Ref.TheVariants.{Void, Node}
use Rattle.type_attributes.specs.declared.source.Target.{Target}
use Rattle.type_attributes.specs.declared.source.Target.TheVariants as targets
use Rattle.unit_graph.specs.declared.links.Out.{Out}
use Rattle.unit_graph.specs.Links.{is_at, or_here, number_from, number_of, linked_to, ref_of}
use Rattle.unit_graph.specs.Links.{with_ref, refs_from, with_refs, nodes_from}
use Rattle.unit_graph.specs.Sources.{Source}

here_below : (k n m : ℕ) (t : Bool) (o : Option ℕ) → ((j : ℕ) → o ≡ Some j → j < k + 1 + m)
    → or_here k t o ≡ Some n → n < k + suc m
here_below k n m t (Some j) ih e = let q : j ≡ n = cc in omega (arith, ih j refl)
here_below k n m true None ih e = let q : k ≡ n = cc in omega arith
here_below k n m false None ih e = cc

number_below : (p : ℕ × ℕ) (k n : ℕ) (ss : List Source) → number_from p k ss ≡ Some n
    → n < k + length ss
number_below p k n [] e = cc
number_below p k n (s ∷ ss) e = here_below k n (length ss) (is_at p s) (number_from p (k + 1) ss)
    (λ (j : ℕ) (h : number_from p (k + 1) ss ≡ Some j). number_below p (k + 1) j ss h) e

same_ref : (a b : Ref) → ◌≡◌ {A = Result Ref Out} (Ok a) (Ok b) → a ≡ b
same_ref a b e = cc

linked_below : (all : List Source) (file from to : ℕ) (o : Option ℕ) (r : Ref) → ((n : ℕ)
    → o ≡ Some n → n < length all) → linked_to file from to o ≡ Ok r → IsBelow (length all) r
linked_below all file from to None r below e = cc
linked_below all file from to (Some n) r below e =
    subst (IsBelow (length all)) (same_ref (Node n) r e) (below n refl)

of_below : (all : List Source) (file to n : ℕ) (t : Bool)
    → (if t then number_from (file, to) 0 all else None) ≡ Some n → n < length all
of_below all file to n true e = omega (arith, number_below (file, to) 0 n all e)
of_below all file to n false e = cc

index_below : (all : List Source) (index : ℕ) (r : Ref) (t : Bool) → nat_lt index (length all) ≡ t
    → ◌≡◌ {A = Result Ref Out} (if t then Ok (Node index) else Ok Void) (Ok r)
    → IsBelow (length all) r
index_below all index r true t e =
    subst (IsBelow (length all)) (same_ref (Node index) r e) (ltb-true index (length all) t)
index_below all index r false t e = subst (IsBelow (length all)) (same_ref Void r e) tt

pub ref_below : (all : List Source) (file index : ℕ) (t : Target) (r : Ref)
    → ref_of all file index t ≡ Ok r → IsBelow (length all) r
ref_below all file index targets.Void r e = subst (IsBelow (length all)) (same_ref Void r e) tt
ref_below all file index targets.Index r e =
    index_below all index r (nat_lt index (length all)) refl e
ref_below all file index (targets.Entry from to) r e = linked_below all file from to
    (number_of all file to) r (λ (n : ℕ) (h : number_of all file to ≡ Some n).
    of_below all file to n (nat_lt to (2 ^ 64)) h) e

single : {X : Type 0} (P : X → Type 0) (x : X) → P x → All P (x ∷ [])
single P x p zero d lt = p
single P x p (suc k) d lt = absurd (omega arith)

one_ref : (all : List Source) (seen rs : List Ref) (x : Result Ref Out) (go : List Ref
    → Result (List Ref) Out) → ((r : Ref) → x ≡ Ok r → IsBelow (length all) r)
    → All (IsBelow (length all)) seen
    → ((more : List Ref) → All (IsBelow (length all)) more → go more ≡ Ok rs → All
    (IsBelow (length all)) rs) → with_ref seen x go ≡ Ok rs → All (IsBelow (length all)) rs
one_ref all seen rs (Err o) go below so_far ih e = cc
one_ref all seen rs (Ok r) go below so_far ih e = ih (seen ++ r ∷ []) (All-append
    (IsBelow (length all)) seen (r ∷ []) so_far (single (IsBelow (length all)) r (below r refl))) e

refs_below : (all : List Source) (file index : ℕ) (seen rs : List Ref) (ts : List Target)
    → All (IsBelow (length all)) seen → refs_from all file index seen ts ≡ Ok rs
    → All (IsBelow (length all)) rs
unfolding refs_from
refs_below all file index seen rs [] so_far e =
    subst (All (IsBelow (length all))) (same seen rs e) so_far
  where
    same : (a b : List Ref) → ◌≡◌ {A = Result (List Ref) Out} (Ok a) (Ok b) → a ≡ b
    same a b e = cc
refs_below all file index seen rs (t ∷ ts) so_far e =
    one_ref all seen rs (ref_of all file index t) (λ more. refs_from all file index more ts)
    (λ (r : Ref) (h : ref_of all file index t ≡ Ok r). ref_below all file index t r h) so_far
    (λ (more : List Ref) (a : All (IsBelow (length all)) more)
    (h : refs_from all file index more ts ≡ Ok rs). refs_below all file index more rs ts a h) e

-- what is known of the nodes so far
abbrev Fine : ℕ → List CType → ℕ → Type 0
Fine all nodes count = RefersWithin all nodes × (length nodes ≡ count)

one_node : (all : List Source) (s : Source) (seen ns : List CType) (left : ℕ)
    (x : Result (List Ref) Out) (go : List CType → Result (List CType) Out)
    → ((rs : List Ref) → x ≡ Ok rs → All (IsBelow (length all)) rs) → RefersWithin (length all) seen
    → ((more : List CType) → RefersWithin (length all) more → go more ≡ Ok ns
    → Fine (length all) ns (length more + left)) → with_refs s seen x go ≡ Ok ns
    → Fine (length all) ns (length seen + suc left)
one_node all s seen ns left (Err o) go below so_far ih e = cc
one_node all s seen ns left (Ok rs) go below so_far ih e =
    let t : CType = record { label = s.label; targets = rs } in
    let i = ih (seen ++ record { label = s.label; targets = rs } ∷ []) (All-append
    (λ (t : CType). All (IsBelow (length all)) t.targets) seen (record {
      label = s.label;
      targets = rs;
    } ∷ []) so_far (single (λ (t : CType). All (IsBelow (length all)) t.targets)
    (record { label = s.label; targets = rs }) (below rs refl))) e in
    (i.0, i.1 ∙ omega (arith, length_push seen t))

none_yet : (n : ℕ) → All (IsBelow n) []
none_yet n k d lt = absurd (omega arith)

nodes_fine : (all : List Source) (seen ns : List CType) (ss : List Source)
    → RefersWithin (length all) seen → nodes_from all seen ss ≡ Ok ns
    → Fine (length all) ns (length seen + length ss)
unfolding nodes_from
nodes_fine all seen ns [] so_far e = let q : seen ≡ ns = same seen ns e in (
  subst
      (RefersWithin (length all)) q so_far,
  ap (λ (xs : List CType). length xs) (sym q) ∙ omega arith,
)
  where
    same : (a b : List CType) → ◌≡◌ {A = Result (List CType) Out} (Ok a) (Ok b) → a ≡ b
    same a b e = cc
nodes_fine all seen ns (s ∷ ss) so_far e =
    one_node all s seen ns (length ss) (refs_from all s.file s.index [] s.targets)
    (λ more. nodes_from all more ss)
    (λ (rs : List Ref) (h : refs_from all s.file s.index [] s.targets ≡ Ok rs).
    refs_below all s.file s.index [] rs s.targets (none_yet (length all)) h) so_far
    (λ (more : List CType) (a : RefersWithin (length all) more)
    (h : nodes_from all more ss ≡ Ok ns). nodes_fine all more ns ss a h) e

pub linked_fine : (all : List Source) (ns : List CType) → nodes_from all [] all ≡ Ok ns
    → RefersWithin (length ns) ns × (length ns ≡ length all)
linked_fine all ns e =
    let f = nodes_fine all [] ns all (λ (k : ℕ) (d : CType) (lt : k < 0). absurd (omega arith)) e in
    let l : length ns ≡ length all = f.1 ∙ omega arith in
    (subst (λ (n : ℕ). RefersWithin n ns) (sym l) f.0, l)
