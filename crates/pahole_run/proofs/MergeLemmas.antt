-- Nodes of files behind a base are merged to a table.
use Rattle.std.proofs.Common.{◌≡◌, ◌<◌, ◌≤◌, ◌+◌, ◌^◌, ℕ, Bool, true, false, List, []}
use Rattle.std.proofs.Common.{length, Option, None, Some, Result, Ok, Err, nat_lt}
use Rattle.std.proofs.Common.{refl, subst, arith}
use Rattle.std.proofs.Common.{if◌then◌else◌}
use Rattle.std.specs.Option.{option_or}
use Rattle.std.proofs.lemmas.Bool.{ltb-false}
use Rattle.btf_codec.specs.Reading.{Before}
use Rattle.c_model.specs.Graph.{IsSound, RefersWithin, Shape}
use Rattle.c_model.specs.Forwards.{HasFittingForwards}
use Rattle.c_model.specs.declared.graph.CType.{CType}
use Rattle.split_base.specs.Merged.{IsPartedBy}
use Rattle.split_base.specs.Table.{table_of}
use Rattle.split_base.proofs.Bases.{joined_fits, joined_sound}
use Rattle.split_base.proofs.Whole.{the_table}
use Rattle.base_merge.specs.Merging.{graph_over}
use Rattle.class_refine.proofs.Existence.{coarsest_exists}
use Rattle.class_refine.proofs.Indexes.{index_exists}
use Rattle.func_types.specs.Chosen.{chosen_nodes, class_behind}
use Rattle.func_types.specs.declared.fault.FuncFault.{FuncFault}
use Rattle.func_types.specs.declared.protos.Protos.{Protos}
use Rattle.func_types.proofs.Outcome.{within_wider}
use Rattle.func_types.proofs.Shaping.{chosen_few, chosen_fits, chosen_within, length_chosen}
use Rattle.func_merge.proofs.Choosing.{the_chosen}
use Rattle.pahole_run.specs.declared.refusal.Refusal.{Refusal}
use Rattle.pahole_run.specs.Files.{alone}
use Rattle.pahole_run.specs.Layers.{of_whole, refusal_in}
use Rattle.pahole_run.specs.Refusals.{first, funcs_checks, over_check}
use Rattle.pahole_run.specs.Tables.{AreNodesOf, AreTheOnly, TheTable}
use Rattle.pahole_run.specs.Tables.Origin.{OfGraph}
use Rattle.dw_base.specs.declared.fault_numbers.TheConstants as numbers
use Rattle.pahole_run.proofs.ProtoLemmas.{AreProtos}
use Rattle.pahole_run.proofs.ReadLemmas.{IsReadBase}

-- ---- the table of a graph

parted : (g : Shape) → IsSound g.base g.nodes → HasFittingForwards g
    → (p : List ℕ) × IsPartedBy g p
parted g sound fits =
    let index = index_exists g sound in
    let p = coarsest_exists g index.0 sound.within index.1.of fits in
    (p.0, record { index = index.0; forwards = index.1; coarsest = p.1; keeps = p.2 })

pub graph_table : (g : Shape) → IsSound g.base g.nodes → HasFittingForwards g
    → TheTable (OfGraph g)
graph_table g sound fits =
    let p = parted g sound fits in
    let t = the_table g p.0 sound fits p.1 in
    record { types = table_of g p.0; from = t.merged; faithful = t.represents; only = t.only }

-- ---- nodes of files

-- nodes that can be merged, no more than a limit
pub record CanMerge (most : ℕ) (nodes : List CType) : Type 0 where
  pub within : RefersWithin (length nodes) nodes
  pub fitting : HasFittingForwards (alone nodes)
  pub few : length nodes ≤ most

pub nothing_merges : (most : ℕ) → CanMerge most []
nothing_merges most = record {
  within = λ k d lt. absurd (omega (arith, lt));
  fitting = record {
    leaves = λ x tag lt. absurd (omega (arith, lt));
    labels = λ x y tag lt. absurd (omega (arith, lt));
  };
  few = omega arith;
}

-- a check that passes before no others
one_passes : (o : Option Refusal) → option_or o None ≡ None → o ≡ None
one_passes None e = refl
one_passes (Some r) e = absurd (cc)

-- a base and nodes that are no more than a limit
over_few : (most : ℕ) (b : Before) (nodes : List CType) (t : Bool)
    → nat_lt most (length b.types + length nodes) ≡ t
    → (if t then refusal_in (of_whole numbers.NODES_TOO_MANY (length b.types + length nodes))
    else None) ≡ None
    → length b.types + length nodes ≤ most
over_few most b nodes true e none = absurd (cc)
over_few most b nodes false e none = ltb-false most (length b.types + length nodes) e

-- the only nodes that are merged
pub record TheNodes (most : ℕ) (Are : List CType → Type 0) : Type 0 where
  pub nodes : List CType
  pub the : AreTheOnly Are nodes
  pub merge : CanMerge most nodes

module _ (most : ℕ) (small : most < 2 ^ 32) where
  over_sound : (before : Option Before) (nodes : List CType) → IsReadBase before
      → CanMerge most nodes → over_check most before nodes ≡ None
      → IsSound (graph_over before nodes).base (graph_over before nodes).nodes
  over_sound None nodes base m none = record {
    few = omega (arith, small, m.few);
    fits = omega arith;
    within = m.within;
    base_within = λ k d lt. absurd (omega (arith, lt));
  }
  over_sound (Some b) nodes base m none =
      let le = over_few most b nodes (nat_lt most (length b.types + length nodes)) refl none in
      joined_sound b.types nodes (omega (arith, small, le)) base.within m.within

  over_fits : (before : Option Before) (nodes : List CType) → IsReadBase before
      → CanMerge most nodes → HasFittingForwards (graph_over before nodes)
  over_fits None nodes base m = m.fitting
  over_fits (Some b) nodes base m = joined_fits b.types (alone nodes) refl base.formed m.fitting

  pub over_table : (before : Option Before) (nodes : List CType) → IsReadBase before
      → CanMerge most nodes → over_check most before nodes ≡ None
      → TheTable (OfGraph (graph_over before nodes))
  over_table before nodes base m none =
      graph_table (graph_over before nodes) (over_sound before nodes base m none)
      (over_fits before nodes base m)

  -- ---- the nodes of chosen functions

  chosen_merge : (class : ℕ → ℕ) (p : Protos Shape) → AreProtos most p
      → CanMerge most (chosen_nodes class p.plain p.graph.nodes p.funcs)
  chosen_merge class p known =
      let long = length_chosen class p.plain p.graph.nodes p.funcs known.plain in
      let few = chosen_few class p.funcs in
      record {
        within = chosen_within class p.plain p.graph.nodes p.funcs known.plain known.within;
        fitting = chosen_fits class p.plain p.graph p.funcs known.alone known.fitting;
        few = omega (arith, long.0, few, known.room);
      }

  chosen_exist : (before : Option Before) (these : List CType) (p : Protos Shape)
      → IsReadBase before → AreProtos most p → over_check most before p.graph.nodes ≡ None
      → TheNodes most (AreNodesOf true before these (Ok p))
  chosen_exist before these p base known none =
      let m : CanMerge most p.graph.nodes = record {
        within = widened p known;
        fitting = lone p known;
        few = known.few;
      } in
      let g : Shape = graph_over before p.graph.nodes in
      let c = parted g (over_sound before p.graph.nodes base m none)
      (over_fits before p.graph.nodes base m) in
      let class : ℕ → ℕ = class_behind g.base c.0 in
      let nodes : List CType = chosen_nodes class p.plain p.graph.nodes p.funcs in
      let t = the_chosen before p nodes known.placed
      (record { partition = c.0; parted = c.1; chosen = refl }) in
      record {
        nodes = nodes;
        the = record { are = t.are; only = t.only };
        merge = chosen_merge class p known;
      }
    where
      widened : (p : Protos Shape) → AreProtos most p
          → RefersWithin (length p.graph.nodes) p.graph.nodes
      widened p known = within_wider p.plain (length p.graph.nodes) p.graph.nodes known.plain
          known.within

      lone : (p : Protos Shape) → AreProtos most p → HasFittingForwards (alone p.graph.nodes)
      lone p known = subst (λ (b : ℕ).
          HasFittingForwards (record { base = b; nodes = p.graph.nodes })) known.alone known.fitting

  pub nodes_exist : (funcs : Bool) (before : Option Before) (these : List CType)
      (protos : Result (Protos Shape) FuncFault) → IsReadBase before → CanMerge most these
      → ((p : Protos Shape) → protos ≡ Ok p → AreProtos most p)
      → first (funcs_checks funcs most before protos) ≡ None
      → TheNodes most (AreNodesOf funcs before these protos)
  nodes_exist false before these protos base m known none = record {
    nodes = these;
    the = record { are = refl; only = λ others is. is };
    merge = m;
  }
  nodes_exist true before these (Err f) base m known none = record {
    nodes = [];
    the = record { are = refl; only = λ others is. is };
    merge = nothing_merges most;
  }
  nodes_exist true before these (Ok p) base m known none =
      chosen_exist before these p base (known p refl)
      (one_passes (over_check most before p.graph.nodes) none)
