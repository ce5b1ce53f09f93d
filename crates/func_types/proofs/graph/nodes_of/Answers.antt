use Rattle.std.proofs.Common.{◌-◌, ◌^◌, ◌++◌, All, List, ap, arith, subst, sym, take, ◌∙◌}
use Rattle.std.specs.List.{filter_map, slice_get}
use Rattle.c_model.specs.Graph.{IsBelow, RefersWithin}
use Rattle.c_model.specs.declared.graph.CType.{CType}
use Rattle.func_types.specs.Chosen.{funcs_from}
use Rattle.func_types.proofs.Shaping.{all_prototypes, within_wider}
use Rattle.func_types.proofs.graph.nodes_of.Goals as goal

pub push_nodes-requires : goal.push_nodes-requires
push_nodes-requires c =
    let fs = filter_map (slice_get c.args.funcs.now) c.args.places.now in
    subst (RefersWithin (2 ^ 32 - 1)) (sym (c.deref.ensures.value ∙ c.in_ok-protos.ensures))
    (all_prototypes (λ (t : CType). All (IsBelow (2 ^ 32 - 1)) t.targets) c.args.graph.nodes fs
    (within_wider c.args.plain (2 ^ 32 - 1) c.args.graph.nodes (omega arith) c.requires.within))

pub returns : goal.returns
returns c =
    let fs = filter_map (slice_get c.args.funcs.now) c.args.places.now in
    let plain = take c.args.plain c.args.graph.nodes in
    c.in_ok-push_funcs.ensures
    ∙ ap (λ (ns : List CType). ns ++ funcs_from c.args.plain fs)
    (c.in_ok-push_nodes.ensures
    ∙ ap (λ (ns : List CType). ns ++ c.deref.result.now)
    (c.truncate.ensures ∙ ap (take c.args.plain) c.into_nodes-nodes.ensures)
    ∙ ap (λ (ns : List CType). plain ++ ns) (c.deref.ensures.value ∙ c.in_ok-protos.ensures))
