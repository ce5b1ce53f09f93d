-- The nodes of the graph are well formed, and its declarations fit: the types of units are formed,
-- and linking keeps labels and the number of targets.
use Rattle.std.proofs.Common.{◌≡◌, ◌≢◌, ℕ, suc, ◌+◌, ◌<◌, nat_lt, Bool, true, false, List, [], ◌∷◌, ◌++◌}
use Rattle.std.proofs.Common.{length, Option, None, Some, Result, Ok, Err, if◌then◌else◌, refl, sym}
use Rattle.std.proofs.Common.{ap, subst, ◌∙◌, arith}
use Rattle.std.specs.Prelude.{All, slice_get}
use Rattle.std.specs.Option.{option_map, option_map_or, option_and_then}
use Rattle.std.proofs.lemmas.Option.{none-some, slice_get_within, get_or_from_slice_get}
use Rattle.std.proofs.lemmas.List.{length_push, nil_from_length}
use Rattle.std.proofs.lemmas.List.Elements.{All-nil, All-cons, All-head, All-tail, All-append}
use Rattle.std.proofs.lemmas.List.Elements.{All-push, All-map, All-weaker}
use Rattle.c_model.specs.declared.label.Label.{Label}
use Rattle.c_model.specs.declared.graph.CType.{CType}
use Rattle.c_model.specs.declared.kinds.TheConstants.{BTF_KIND_FUNC}
use Rattle.c_model.specs.declared.graph.Ref.{Ref}
use Rattle.c_model.specs.Graph.{Shape}
use Rattle.c_model.specs.Kinds.{IsWellFormed}
use Rattle.c_model.specs.Partition.{label_at, targets_at}
use Rattle.c_model.specs.Forwards.{Tag, declared_tag, declaration_at, forward_at}
use Rattle.c_model.specs.Forwards.{HasFittingForwards}
use Rattle.type_attributes.specs.declared.source.UnitTypes.{UnitTypes}
use Rattle.type_attributes.specs.declared.source.Target.{Target}
use Rattle.type_attributes.specs.declared.fault.TypeFault.{TypeFault}
use Rattle.c_types.specs.Types.{types_of_unit_of}
use Rattle.c_types.specs.Formed.{declaration_label, IsFormed, AreFormed}
use Rattle.c_types.proofs.Formed.Kinds.{int_formed}
use Rattle.c_types.proofs.Formed.Names.{spelled_clean}
use Rattle.c_types.proofs.Formed.Units.{types_formed}
use Rattle.unit_graph.specs.declared.links.Out.{Out}
use Rattle.unit_graph.specs.Sources.{Source, FileUnit, UnitRefusal, index_name, index_label}
use Rattle.unit_graph.specs.Sources.{source_of, made_sources, index_sources, sources_of, joined}
use Rattle.unit_graph.specs.Sources.{gathered}
use Rattle.unit_graph.specs.Links.{ref_of, with_ref, refs_from, with_refs, nodes_from}

-- a node is well formed and no FUNC, and where it declares a tag, it is that declaration and refers
-- to nothing
pub record IsFine (t : CType) : Type 0 where
  pub well : IsWellFormed t
  pub declares : (tag : Tag) → declared_tag t.label ≡ Some tag
      → (t.label ≡ declaration_label tag) × (t.targets ≡ [])
  pub no_func : t.label.kind ≢ BTF_KIND_FUNC

-- one before it is linked
abbrev IsFormedSource : Source → Type 0
IsFormedSource s = IsFormed s.label (length s.targets)

-- linking keeps the number of targets
one_count : (seen rs : List Ref) (left : ℕ) (x : Result Ref Out) (go : List Ref → Result
    (List Ref) Out) → ((more : List Ref) → go more ≡ Ok rs → length rs ≡ length more + left)
    → with_ref seen x go ≡ Ok rs → length rs ≡ length seen + suc left
one_count seen rs left (Err o) go ih e = cc
one_count seen rs left (Ok r) go ih e = ih (seen ++ r ∷ []) e ∙ omega (arith, length_push seen r)

refs_count : (all : List Source) (file index : ℕ) (seen rs : List Ref) (ts : List Target)
    → refs_from all file index seen ts ≡ Ok rs → length rs ≡ length seen + length ts
unfolding refs_from
refs_count all file index seen rs [] e = let q : seen ≡ rs = same seen rs e in
    ap (λ (xs : List Ref). length xs) (sym q) ∙ omega arith
  where
    same : (a b : List Ref) → ◌≡◌ {A = Result (List Ref) Out} (Ok a) (Ok b) → a ≡ b
    same a b e = cc
refs_count all file index seen rs (t ∷ ts) e =
    one_count seen rs (length ts) (ref_of all file index t) (λ more. refs_from all file index more
    ts) (λ (more : List Ref) (h : refs_from all file index more ts ≡ Ok rs).
    refs_count all file index more rs ts h) e

node_fine : (s : Source) (rs : List Ref) → IsFormedSource s → length rs ≡ length s.targets
    → IsFine (record { label = s.label; targets = rs })
node_fine s rs f count =
    record {
      well = f.well rs count;
      declares = λ (tag : Tag) (h : declared_tag s.label ≡ Some tag). let d = f.declares tag h in
          (d.0, nil_from_length rs (count ∙ d.1));
      no_func = f.no_func;
    }

one_node : (s : Source) (seen ns : List CType) (x : Result (List Ref) Out) (go : List CType
    → Result (List CType) Out) → IsFormedSource s
    → ((rs : List Ref) → x ≡ Ok rs → length rs ≡ length s.targets) → All IsFine seen
    → ((more : List CType) → All IsFine more → go more ≡ Ok ns → All IsFine ns)
    → with_refs s seen x go ≡ Ok ns → All IsFine ns
one_node s seen ns (Err o) go f count so_far ih e = cc
one_node s seen ns (Ok rs) go f count so_far ih e =
    ih (seen ++ record { label = s.label; targets = rs } ∷ []) (All-push IsFine seen
    (record { label = s.label; targets = rs }) so_far (node_fine s rs f (count rs refl))) e

nodes_fine : (all : List Source) (seen ns : List CType) (ss : List Source) → All IsFine seen
    → All IsFormedSource ss → nodes_from all seen ss ≡ Ok ns → All IsFine ns
unfolding nodes_from
nodes_fine all seen ns [] so_far formed e = subst (All IsFine) (same seen ns e) so_far
  where
    same : (a b : List CType) → ◌≡◌ {A = Result (List CType) Out} (Ok a) (Ok b) → a ≡ b
    same a b e = cc
nodes_fine all seen ns (s ∷ ss) so_far formed e =
    one_node s seen ns (refs_from all s.file s.index [] s.targets)
    (λ more. nodes_from all more ss) (All-head IsFormedSource s ss formed)
    (λ (rs : List Ref) (h : refs_from all s.file s.index [] s.targets ≡ Ok rs).
    refs_count all s.file s.index [] rs s.targets h ∙ omega arith) so_far
    (λ (more : List CType) (a : All IsFine more) (h : nodes_from all more ss ≡ Ok ns).
    nodes_fine all more ns ss a (All-tail IsFormedSource s ss formed) h) e

-- the nodes of a unit before they are linked
index_formed : (file index : ℕ) (has_array : Bool)
    → All IsFormedSource (index_sources file index has_array)
index_formed file index true =
    All-cons IsFormedSource (record {
      file = file;
      at = None;
      index = index;
      label = index_label;
      targets = [];
    }) [] (int_formed index_name 4 32 (spelled_clean index_name refl) (omega arith)
    (omega arith)) (All-nil IsFormedSource)
index_formed file index false = All-nil IsFormedSource

sources_formed : (file start : ℕ) (t : UnitTypes) → AreFormed t.types
    → All IsFormedSource (sources_of file start t)
sources_formed file start t formed =
    let index = start + length t.types in
    All-append IsFormedSource (made_sources file index t.types)
    (index_sources file index t.has_array) (All-map IsFormedSource
    (source_of file index) t.types formed) (index_formed file index t.has_array)

-- the units one after the other
one_unit : (u : FileUnit) (unit : ℕ) (seen all : List Source) (r : Result UnitTypes TypeFault)
    (go : List Source → Result (List Source) UnitRefusal) → All IsFormedSource seen
    → ((t : UnitTypes) → r ≡ Ok t → AreFormed t.types)
    → ((more : List Source) → All IsFormedSource more → go more ≡ Ok all → All IsFormedSource all)
    → joined u.file unit seen r go ≡ Ok all → All IsFormedSource all
one_unit u unit seen all (Err f) go so_far formed ih e = cc
one_unit u unit seen all (Ok t) go so_far formed ih e =
    ih (seen ++ sources_of u.file (length seen) t) (All-append IsFormedSource seen (sources_of
    u.file (length seen) t) so_far (sources_formed u.file (length seen) t (formed t refl))) e

all_formed : (unit : ℕ) (seen all : List Source) (units : List FileUnit) → All IsFormedSource seen
    → gathered unit seen units ≡ Ok all → All IsFormedSource all
unfolding gathered
all_formed unit seen all [] so_far e = subst (All IsFormedSource) (same seen all e) so_far
  where
    same : (a b : List Source) → ◌≡◌ {A = Result (List Source) UnitRefusal} (Ok a) (Ok b) → a ≡ b
    same a b e = cc
all_formed unit seen all (u ∷ us) so_far e =
    one_unit u unit seen all (types_of_unit_of u.bytes u.unit) (λ more. gathered (unit + 1) more us)
    so_far (λ (t : UnitTypes) (h : types_of_unit_of u.bytes u.unit ≡ Ok t).
    types_formed u.bytes u.unit t h)
    (λ (more : List Source) (a : All IsFormedSource more)
    (h : gathered (unit + 1) more us ≡ Ok all). all_formed (unit + 1) more all us a h) e

-- the graph
pub units_fine : (units : List FileUnit) (all : List Source) (ns : List CType)
    → gathered 0 [] units ≡ Ok all → nodes_from all [] all ≡ Ok ns → All IsFine ns
units_fine units all ns gathers links = nodes_fine all [] ns all (All-nil IsFine)
    (all_formed 0 [] all units (All-nil IsFormedSource) gathers) links

pub well : (ns : List CType) → All IsFine ns → All IsWellFormed ns
well ns all = All-weaker IsFine IsWellFormed (λ (t : CType) (f : IsFine t). f.well) ns all

-- declarations among fine nodes
declared_node : (t : CType) (tag : Tag) → IsFine t → declared_tag t.label ≡ Some tag
    → (Some t.label ≡ Some (declaration_label tag)) × (t.targets ≡ [])
declared_node t tag f e = let d = f.declares tag e in (ap (λ (l : Label). Some l) d.0, d.1)

declared_at : (o : Option CType) (tag : Tag) → ((t : CType) → o ≡ Some t → IsFine t)
    → option_and_then declared_tag (option_map (λ (t : CType). t.label) o) ≡ Some tag
    → (option_map (λ (t : CType). t.label) o ≡ Some (declaration_label tag))
    × (option_map_or (λ (t : CType). t.targets) o [] ≡ [])
declared_at None tag fine e = absurd (none-some tag e)
declared_at (Some t) tag fine e = declared_node t tag (fine t refl) e

fine_at : (ns : List CType) (x : ℕ) (t : CType) → All IsFine ns → slice_get ns x ≡ Some t → IsFine t
fine_at ns x t all e =
    subst IsFine (get_or_from_slice_get ns x t t e) (all x t (slice_get_within ns x t e))

node_declares : (ns : List CType) (x : ℕ) (tag : Tag) → All IsFine ns → declaration_at ns x
    ≡ Some tag → (label_at ns x ≡ Some (declaration_label tag)) × (targets_at ns x ≡ [])
node_declares ns x tag all e = declared_at (slice_get ns x) tag
    (λ (t : CType) (h : slice_get ns x ≡ Some t). fine_at ns x t all h) e

past_base : (base : Bool) (o : Option Tag) (tag : Tag) → (if base then None else o) ≡ Some tag
    → o ≡ Some tag
past_base true o tag e = absurd (none-some tag e)
past_base false o tag e = e

pub fits : (g : Shape) → All IsFine g.nodes → HasFittingForwards g
fits g all =
    record {
      leaves = λ (x : ℕ) (tag : Tag) (within : x < length g.nodes)
          (e : declaration_at g.nodes x ≡ Some tag). (node_declares g.nodes x tag all e).1;
      labels = λ (x y : ℕ) (tag : Tag) (hx : x < length g.nodes) (hy : y < length g.nodes)
          (ex : forward_at g x ≡ Some tag) (ey : forward_at g y ≡ Some tag).
          (node_declares g.nodes x tag all (past_base (nat_lt x g.base)
          (declaration_at g.nodes x) tag ex)).0 ∙ sym (node_declares g.nodes y tag all
          (past_base (nat_lt y g.base) (declaration_at g.nodes y) tag ey)).0;
    }
