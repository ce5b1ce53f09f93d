use Rattle.std.proofs.Common.{ap, ◌≡◌, ◌∙◌, ℕ, List, length, take, sym, subst}
use Rattle.std.specs.Prelude.{All}
use Rattle.c_model.specs.declared.graph.CType.{CType}
use Rattle.c_model.specs.Forwards.{HasFittingForwards}
use Rattle.c_model.specs.Graph.{RefersWithin}
use Rattle.c_model.specs.Kinds.{IsWellFormed}
use Rattle.split_base.specs.Graphs.{joined}
use Rattle.split_base.proofs.Bases.{joined_fits, joined_formed}
use Rattle.split_base.proofs.Joining.{base_of_joined, joined-packed, joined_within}
use Rattle.split_base.proofs.graph.with_base_packed.Goals.{In_ok-nodes}
use Rattle.split_base.proofs.graph.with_base_packed.Goals as goal

-- all nodes are the types of the base and the graph's own
all_joined : (c : In_ok-nodes)
    → c.in_ok-nodes.nodes ≡ joined c.args.table.now.types c.args.graph.nodes
all_joined c =
    joined-packed c.args.table.now.types c.args.graph.nodes c.in_ok-packed_types.field-0
    c.into_nodes-own.result c.in_ok-nodes.nodes
    (c.in_ok-packed_types.ensures
    ∙ c.items-types.ensures) c.into_nodes-own.ensures c.in_ok-nodes.ensures

-- the base nodes are as many as the types of the base
base_counted : (c : In_ok-nodes) → c.in_ok-base.base ≡ length c.args.table.now.types
base_counted c = c.in_ok-base.ensures.count ∙ ap length c.items-types.ensures

pub new-requires-clause-within : goal.new-requires-clause-within
new-requires-clause-within c =
    subst (λ (all : List CType). RefersWithin (length all) all) (sym (all_joined c))
    (joined_within c.args.table.now.types c.args.graph.nodes c.requires.within
    c.len.ensures.sound.within)

pub new-requires-clause-base_within : goal.new-requires-clause-base_within
new-requires-clause-base_within c =
    subst (λ (n : ℕ). RefersWithin n (take n c.in_ok-nodes.nodes)) (sym (base_counted c))
    (subst (RefersWithin (length c.args.table.now.types))
    (sym (ap (take (length c.args.table.now.types)) (all_joined c)
    ∙ base_of_joined c.args.table.now.types c.args.graph.nodes)) c.requires.within)

pub returns-clause-whole : goal.returns-clause-whole
returns-clause-whole c =
    let at = (goal.at.returns-clause-whole c).In_ok-nodes in
    λ i. record {
      base = (c.new.ensures.base ∙ base_counted at) i;
      nodes = (c.new.ensures.nodes ∙ all_joined at) i;
    }

pub returns-clause-formed : goal.returns-clause-formed
returns-clause-formed c types nodes =
    subst (All IsWellFormed) (sym (ap (λ s. s.nodes) (returns-clause-whole c)))
    (joined_formed c.args.table.now.types c.args.graph.nodes types nodes)

pub returns-clause-fitting : goal.returns-clause-fitting
returns-clause-fitting c all fit =
    subst HasFittingForwards (sym (returns-clause-whole c))
    (joined_fits c.args.table.now.types c.args.graph c.requires.files all fit)
