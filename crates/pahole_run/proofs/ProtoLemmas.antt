-- The graph of files and that of prototypes, where no check refuses them.
use Rattle.std.proofs.Common.{◌≡◌, ◌<◌, ◌≤◌, ◌+◌, ◌*◌, ◌++◌, ℕ, Bool, true, false, nat_lt}
use Rattle.std.proofs.Common.{List, [], ◌∷◌, All, length, None, Result}
use Rattle.std.proofs.Common.{Ok, Err, refl, sym, ap, subst, ◌∙◌, arith}
use Rattle.std.proofs.Common.{if◌then◌else◌}
use Rattle.std.specs.Result.{result_err, result_unwrap_or}
use Rattle.std.proofs.lemmas.Bool.{ltb-false}
use Rattle.std.specs.List.{enumerate_from}
use Rattle.std.proofs.lemmas.List.{length-append, length-map}
use Rattle.std.proofs.lemmas.List.FromFn.{length-enumerate_from}
use Rattle.std.proofs.lemmas.List.Elements.{All-append, All-cons, All-nil, All-push}
use Rattle.c_model.specs.Graph.{IsBelow, RefersWithin, Shape}
use Rattle.c_model.specs.Forwards.{HasFittingForwards}
use Rattle.c_model.specs.declared.graph.CType.{CType}
use Rattle.c_model.specs.declared.graph.Ref.{Ref}
use Rattle.unit_graph.specs.Links.{nodes_from, refs_from, with_refs}
use Rattle.unit_graph.specs.Sources.{FileUnit, Source, UnitRefusal, gathered}
use Rattle.unit_graph.specs.declared.links.Out.{Out}
use Rattle.unit_graph.proofs.Formed.{IsFine, fits, units_fine}
use Rattle.unit_graph.proofs.Within.{linked_fine}
use Rattle.unit_encoder.specs.Faults.{unit_faults as graph_faults}
use Rattle.unit_encoder.specs.Functions.{functions_from}
use Rattle.unit_encoder.specs.Graph.{graph_of, linked as graph_linked, told_out as graph_out}
use Rattle.unit_encoder.specs.declared.fault.EncodeFault.{EncodeFault}
use Rattle.unit_encoder.specs.declared.fault.EncodeFault.TheVariants.{NodesTooMany as GraphTooMany}
use Rattle.unit_encoder.specs.declared.functions.FileFunc.{FileFunc}
use Rattle.unit_encoder.specs.declared.functions.UnitFault.{UnitFault}
use Rattle.func_types.specs.Faults.{unit_faults}
use Rattle.func_types.specs.Prototypes.{func_with, linked, numbered}
use Rattle.func_types.specs.Prototypes.{prototypes_in, prototypes_of_units, sources_by}
use Rattle.func_types.specs.Prototypes.{sources_in, told_out}
use Rattle.func_types.specs.declared.fault.FuncFault.{FuncFault}
use Rattle.func_types.specs.declared.fault.FuncFault.TheVariants.{NodesTooMany as ProtosTooMany}
use Rattle.func_types.specs.declared.protos.Func.{Func}
use Rattle.func_types.specs.declared.protos.Protos.{Protos}
use Rattle.func_types.proofs.Following.{refs_below}
use Rattle.func_types.proofs.Formed.{entries_formed, prototypes_fine}
use Rattle.pahole_run.specs.Files.{alone}
use Rattle.pahole_run.specs.Layers.{of_encode, seen_as}

-- ---- the graph of files

-- what the nodes of files are, no more of them than a limit; the sources that prototypes refer to
-- are theirs
pub record AreOfUnits (most : ℕ) (units : List FileUnit) (nodes : List CType) : Type 0 where
  pub fine : All IsFine nodes
  pub within : RefersWithin (length nodes) nodes
  pub size : length (sources_in units) ≡ length nodes
  pub few : length nodes ≤ most

abbrev Accepts : ℕ → List FileUnit → Result (List CType) EncodeFault → Type 0
Accepts most units r =
    seen_as of_encode (result_err r) ≡ None → AreOfUnits most units (result_unwrap_or r [])

linked_units : (most : ℕ) (units : List FileUnit) (all : List Source)
    (r : Result (List CType) Out) → gathered 0 [] units ≡ Ok all → length all ≤ most
    → nodes_from all [] all ≡ r → Accepts most units (graph_out units r)
linked_units most units all (Err o) g le e none = absurd (cc)
linked_units most units all (Ok nodes) g le e none =
    let w = linked_fine all nodes e in
    let s : length (sources_in units) ≡ length all =
    ap (λ (r : Result (List Source) UnitRefusal). length (sources_by r)) g in
    record {
      fine = units_fine units all nodes g e;
      within = w.0;
      size = s ∙ sym w.1;
      few = omega (arith, le, w.1);
    }

abbrev by_count : ℕ → List FileUnit → List Source → Bool → Result (List CType) EncodeFault
by_count most units all b = if b then Err (GraphTooMany (length all))
    else graph_out units (nodes_from all [] all)

counted_units : (most : ℕ) (units : List FileUnit) (all : List Source) (b : Bool)
    → gathered 0 [] units ≡ Ok all → nat_lt most (length all) ≡ b
    → Accepts most units (by_count most units all b)
counted_units most units all true g e none = absurd (cc)
counted_units most units all false g e none =
    linked_units most units all (nodes_from all [] all) g (ltb-false most (length all) e) refl none

gathered_units : (most : ℕ) (units : List FileUnit) (r : Result (List Source) UnitRefusal)
    → gathered 0 [] units ≡ r → Accepts most units (graph_linked most units (graph_faults r))
gathered_units most units (Ok all) g none =
    counted_units most units all (nat_lt most (length all)) g refl none
gathered_units most units (Err u) g none = record {
  fine = All-nil IsFine;
  within = λ k d lt. absurd (omega (arith, lt));
  size = ap (λ (r : Result (List Source) UnitRefusal). length (sources_by r)) g;
  few = omega arith;
}

pub units_accepted : (most : ℕ) (units : List FileUnit)
    → seen_as of_encode (result_err (graph_of most units)) ≡ None
    → AreOfUnits most units (result_unwrap_or (graph_of most units) [])
units_accepted most units = gathered_units most units (gathered 0 [] units) refl

-- ---- the graph of prototypes

one_node : (n : ℕ) (s : Source) (seen ns : List CType) (x : Result (List Ref) Out)
    (go : List CType → Result (List CType) Out)
    → ((rs : List Ref) → x ≡ Ok rs → All (IsBelow n) rs) → RefersWithin n seen
    → ((more : List CType) → RefersWithin n more → go more ≡ Ok ns → RefersWithin n ns)
    → with_refs s seen x go ≡ Ok ns → RefersWithin n ns
one_node n s seen ns (Err o) go below so_far ih e = absurd (cc)
one_node n s seen ns (Ok rs) go below so_far ih e =
    let t : CType = record { label = s.label; targets = rs } in
    ih (seen ++ t ∷ [])
    (All-push (λ (u : CType). All (IsBelow n) u.targets) seen t so_far (below rs refl)) e

linked_within : (all : List Source) (seen ns : List CType) (ss : List Source)
    → RefersWithin (length all) seen → nodes_from all seen ss ≡ Ok ns
    → RefersWithin (length all) ns
unfolding nodes_from
linked_within all seen ns [] so_far e = subst (RefersWithin (length all)) (same seen ns e) so_far
  where
    same : (a b : List CType) → ◌≡◌ {A = Result (List CType) Out} (Ok a) (Ok b) → a ≡ b
    same a b e = cc
linked_within all seen ns (s ∷ ss) so_far e =
    one_node (length all) s seen ns (refs_from all s.file s.index [] s.targets)
    (λ more. nodes_from all more ss)
    (λ (rs : List Ref) (h : refs_from all s.file s.index [] s.targets ≡ Ok rs).
    refs_below all s.file s.index rs s.targets h) so_far
    (λ (more : List CType) (a : RefersWithin (length all) more)
    (h : nodes_from all more ss ≡ Ok ns). linked_within all more ns ss a h) e

placed_from : (limit first : ℕ) (fs : List FileFunc) → first + length fs ≤ limit
    → All (λ (f : Func). f.proto < limit) (numbered first fs)
placed_from limit first [] le = All-nil (λ (f : Func). f.proto < limit)
placed_from limit first (f ∷ fs) le =
    All-cons (λ (g : Func). g.proto < limit) (func_with first f) (numbered (first + 1) fs)
    (omega arith) (placed_from limit (first + 1) fs (omega arith))

length_numbered : (first : ℕ) (fs : List FileFunc) → length (numbered first fs) ≡ length fs
length_numbered first fs = length-map (enumerate_from first fs)
    (λ (e : ℕ × FileFunc). func_with e.0 e.1) ∙ length-enumerate_from first fs

-- what a graph of prototypes is: so many nodes that refer to the first of them alone
pub record AreProtos (most : ℕ) (p : Protos Shape) : Type 0 where
  pub alone : p.graph.base ≡ 0
  pub fitting : HasFittingForwards p.graph
  pub plain : p.plain ≤ length p.graph.nodes
  pub within : RefersWithin p.plain p.graph.nodes
  pub placed : All (λ (f : Func). f.proto < length p.graph.nodes) p.funcs
  pub room : p.plain + 2 * length p.funcs ≤ most
  pub few : length p.graph.nodes ≤ most

module _ (most : ℕ) (units : List FileUnit) (nodes : List CType)
    (known : AreOfUnits most units nodes) where
  abbrev Known : Result (Protos Shape) FuncFault → Type 0
  Known r = (p : Protos Shape) → r ≡ Ok p → AreProtos most p

  protos_out : (fs : List FileFunc) (r : Result (List CType) Out)
      → functions_from 0 units ≡ Ok fs → length nodes + 2 * length fs ≤ most
      → nodes_from (sources_in units) [] (prototypes_in (length nodes) fs) ≡ r
      → Known (told_out units nodes fs r)
  protos_out fs (Err o) read le e p is = absurd (cc)
  protos_out fs (Ok ps) read le e p is =
      subst (AreProtos most) (same q p is) (record {
        alone = refl;
        fitting = fits (alone (nodes ++ ps)) (All-append IsFine nodes ps known.fine fine.0);
        plain = omega (arith, size);
        within = All-append (λ (t : CType). All (IsBelow (length nodes)) t.targets) nodes ps
            known.within
            (subst (λ (n : ℕ). RefersWithin n ps) known.size
            (linked_within (sources_in units) [] ps (prototypes_in (length nodes) fs)
            (λ k d lt. absurd (omega (arith, lt))) e));
        placed = placed_from (length (nodes ++ ps)) (length nodes) fs (omega (arith, size));
        room = omega (arith, le, count);
        few = omega (arith, le, size);
      })
    where
      q : Protos Shape
      q = record {
        graph = record { base = 0; nodes = nodes ++ ps };
        plain = length nodes;
        funcs = numbered (length nodes) fs;
      }

      same : (a b : Protos Shape) → ◌≡◌ {A = Result (Protos Shape) FuncFault} (Ok a) (Ok b) → a ≡ b
      same a b e = cc

      fine : All IsFine ps × (length ps ≡ length fs)
      fine = prototypes_fine (sources_in units) ps (length nodes) fs
          (entries_formed units fs read) e

      size : length (nodes ++ ps) ≡ length nodes + length fs
      size = length-append nodes ps ∙ ap (λ (n : ℕ). length nodes + n) fine.1

      count : length (numbered (length nodes) fs) ≡ length fs
      count = length_numbered (length nodes) fs

  abbrev protos_by : List FileFunc → Bool → Result (Protos Shape) FuncFault
  protos_by fs b = if b then Err (ProtosTooMany (length nodes + 2 * length fs))
      else told_out units nodes fs
      (nodes_from (sources_in units) [] (prototypes_in (length nodes) fs))

  protos_counted : (fs : List FileFunc) (b : Bool) → functions_from 0 units ≡ Ok fs
      → nat_lt most (length nodes + 2 * length fs) ≡ b → Known (protos_by fs b)
  protos_counted fs true read e p is = absurd (cc)
  protos_counted fs false read e p is =
      protos_out fs (nodes_from (sources_in units) [] (prototypes_in (length nodes) fs)) read
      (ltb-false most (length nodes + 2 * length fs) e) refl p is

  protos_read : (r : Result (List FileFunc) UnitFault) → functions_from 0 units ≡ r
      → Known (linked most units nodes (unit_faults r))
  protos_read (Err u) read p is = absurd (cc)
  protos_read (Ok fs) read p is =
      protos_counted fs (nat_lt most (length nodes + 2 * length fs)) read refl p is

  pub protos_known : (p : Protos Shape) → prototypes_of_units most units nodes ≡ Ok p
      → AreProtos most p
  protos_known = protos_read (functions_from 0 units) refl
