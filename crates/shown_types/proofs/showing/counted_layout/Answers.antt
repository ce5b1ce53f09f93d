use Rattle.std.proofs.Common.{◌≡◌, ◌+◌, suc, ℕ, List, Some, Err, arith, ap, sym, subst}
use Rattle.c_model.specs.declared.graph.CType.{CType}
use Rattle.layout_printer.specs.Layout.{IsStructure, IsLayout, IsFirstLacking}
use Rattle.layout_printer.specs.Sizes.{ref_of, type_of}
use Rattle.layout_printer.specs.declared.slots.LayoutFault.{LayoutFault}
use Rattle.layout_printer.specs.declared.slots.TypeLayout.{TypeLayout}
use Rattle.shown_types.specs.Shown.{IsShown}
use Rattle.shown_types.proofs.Lacking.{structure_there, laid_out, lacking}
use Rattle.shown_types.proofs.showing.counted_layout.Goals as goal

pub returns-in_ok-with_counts-in-Ok : goal.returns-in_ok-with_counts-in-Ok
returns-in_ok-with_counts-in-Ok c x is =
    let types : List CType = c.args.source.table.now.types in
    let pointer : ℕ = c.args.source.sizes.now.pointer in
    let step : c.args.structure + 1 ≡ suc c.args.structure = omega arith in
    let laid =
    laid_out types pointer x c.args.structure c.in-Ok.layout is
    (subst (λ (k : ℕ). IsLayout types pointer k c.in-Ok.layout) step c.in-Ok.ensures.ok) in (
      laid.0,
      subst (λ (t : TypeLayout). IsShown types pointer x t)
          (sym c.in_ok-with_counts-in-Ok.ensures.layout) laid.1,
      c.in_ok-with_counts-in-Ok.ensures.counted,
    )

pub returns-in-Err-NoSize : goal.returns-in-Err-NoSize
returns-in-Err-NoSize c x is =
    let types : List CType = c.args.source.table.now.types in
    let pointer : ℕ = c.args.source.sizes.now.pointer in
    let step : suc c.args.structure ≡ c.args.structure + 1 = omega arith in
    let there : IsStructure types (suc c.args.structure) =
    structure_there types x c.args.structure is in
    let found : type_of types (ref_of (c.args.structure + 1)) ≡ Some there.t =
    subst (λ (k : ℕ). type_of types (ref_of k) ≡ Some there.t) step there.found in
    let first : IsFirstLacking types pointer there.t c.in-Err-NoSize.id =
    c.in-Err-NoSize.ensures.no_size c.in-Err-NoSize.id there.t
    (ap (λ (f : LayoutFault). Err f) c.in-Err-NoSize.field-0-is) found in
    rw c.in-Err-NoSize.field-0-is
    (lacking types pointer x c.args.structure c.in-Err-NoSize.id there.t is there.found first)
