use Rattle.std.proofs.Common.{◌≡◌, ◌<◌, All, List, ℕ, ap, arith, length, subst, sym, ◌∙◌}
use Rattle.std.specs.List.{filter_map, slice_get}
use Rattle.c_model.specs.Graph.{Shape}
use Rattle.file_graph.specs.Files.{IsOfFiles}
use Rattle.func_types.specs.Chosen.{graph_of}
use Rattle.func_types.specs.FileProtos.{AreOfFunctions}
use Rattle.func_types.specs.declared.protos.Func.{Func}
use Rattle.func_types.specs.declared.protos.Protos.{Protos}
use Rattle.func_types.proofs.Shaping.{few_at, files_at, within_at}
use Rattle.func_types.proofs.graph.chosen_at.Goals.{In_ok-nodes}
use Rattle.func_types.proofs.graph.chosen_at.Goals as goal

-- the graph of the functions in the places
abbrev graph_at : Protos Shape → List ℕ → Shape
graph_at p places = graph_of p.plain p.graph.nodes (filter_map (slice_get p.funcs) places)

of_functions : (c : In_ok-nodes) → AreOfFunctions c.args.protos
of_functions c =
    subst AreOfFunctions c.into_protos-given.ensures.same c.into_protos-given.ensures.functions

nodes_are : (c : In_ok-nodes)
    → c.in_ok-nodes.nodes ≡ (graph_at c.args.protos c.args.places.now).nodes
nodes_are c =
    let given = c.into_protos-given.result in
    c.in_ok-nodes.ensures
    ∙ ap (λ (fs : List Func). (graph_of given.plain given.graph.nodes
    (filter_map (slice_get fs) c.args.places.now)).nodes) c.items.ensures
    ∙ ap (λ (p : Protos Shape). (graph_at p c.args.places.now).nodes)
    c.into_protos-given.ensures.same

pub nodes_of-requires : goal.nodes_of-requires
nodes_of-requires c =
    let given = c.into_protos-given.result in
    let o = c.into_protos-given.ensures.functions in
    let same : given.funcs ≡ c.args.protos.funcs =
    ap (λ (p : Protos Shape). p.funcs) c.into_protos-given.ensures.same in
    record {
      protos = subst (All (λ (f : Func). f.proto < length given.graph.nodes))
          (sym c.items.ensures) o.placed;
      places = subst (λ (fs : List Func). All (λ (i : ℕ). i < length fs) c.args.places.now)
          (sym (c.items.ensures ∙ same)) c.requires.within;
      within = o.within;
      few = omega (arith, o.room, c.requires.few, ap length same);
    }

pub new-requires-clause-few : goal.new-requires-clause-few
new-requires-clause-few c =
    let o = (goal.at.new-requires-clause-few c).In_ok-nodes in
    few_at c.args.protos (of_functions o) c.args.places.now c.requires c.in_ok-nodes.nodes
    (nodes_are o)

pub new-requires-clause-within : goal.new-requires-clause-within
new-requires-clause-within c =
    let o = (goal.at.new-requires-clause-within c).In_ok-nodes in
    within_at c.args.protos (of_functions o) c.args.places.now c.requires c.in_ok-nodes.nodes
    (nodes_are o)

pub new-requires-2 : goal.new-requires-2
new-requires-2 c =
    let o = (goal.at.new-requires-2 c).In_ok-nodes in
    let base = sym c.new.ensures.base in
    let nodes = sym c.new.ensures.nodes in
    subst IsOfFiles (λ i. record { base = base i; nodes = nodes i })
    (files_at c.args.protos (of_functions o) c.args.places.now c.requires c.in_ok-nodes.nodes
    (nodes_are o))

pub returns : goal.returns
returns c =
    let nodes = c.new.ensures.nodes ∙ nodes_are (goal.at.returns c).In_ok-nodes in
    c.new-2.ensures ∙ (λ i. record { base = c.new.ensures.base i; nodes = nodes i })
