use Rattle.std.proofs.Common.{◌≡◌, Ok, get_or, sym, ap, ◌∙◌}
use Rattle.dwarf_abbrev.specs.declared.spec.Spec.{Spec}
use Rattle.dwarf_forms.specs.Values.{within, end_of, value_of}
use Rattle.entry_tree.proofs.Ends.{ends_one_more}
use Rattle.entry_tree.proofs.skips.place_behind_value.Goals as goal

pub returns-in-Ok : goal.returns-in-Ok
returns-in-Ok c =
    let at = c.in_ok-spec.ensures.lookup.3 in
    let value : end_of (value_of (within c.args.ctx.now)
    (get_or c.args.specs.now c.args.index c.in_ok-spec.spec.now) c.args.at) ≡ Ok c.in-Ok.end =
    ap (λ (s : Spec). end_of (value_of (within c.args.ctx.now) s c.args.at))
    (sym (at.1 c.in_ok-spec.spec.now)) ∙ sym c.in-Ok.ensures.value in
    λ from before.
    ends_one_more (within c.args.ctx.now) c.args.specs.now c.args.index from c.args.at
    c.in-Ok.end c.in_ok-spec.spec.now at.0 value before
