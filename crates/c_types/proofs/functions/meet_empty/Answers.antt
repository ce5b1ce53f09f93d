use Rattle.std.proofs.Common.{◌≡◌, ◌==◌, ◌∷◌, ◌∙◌, false, refl}
use Rattle.dwarf_abbrev.specs.declared.constants.TheConstants.{DW_TAG_formal_parameter}
use Rattle.dwarf_abbrev.specs.declared.constants.TheConstants.{DW_TAG_unspecified_parameters}
use Rattle.dwarf_forms.specs.Meanings.{sections}
use Rattle.c_types.proofs.OpenFunctions.{first_made, first_refused, empty_passes}
use Rattle.c_types.proofs.OpenFunctions.{empty_passes_refused, function_met, function_met_refused}
use Rattle.c_types.proofs.functions.meet_empty.Goals as goal

pub returns-then-not-is_parameter : goal.returns-then-not-is_parameter
returns-then-not-is_parameter c =
    let s = sections c.args.ctx.now.form in
    let e = c.args.child.now in
    let p : (e.tag == DW_TAG_formal_parameter) ≡ false =
    rw c.tag.ensures at (c.if-not-is_parameter.ensures.parameter refl) in
    let m : (e.tag == DW_TAG_unspecified_parameters) ≡ false =
    rw c.tag.ensures at (c.if-not-is_parameter.ensures.more refl) in
    record {
      made = λ kids. empty_passes s c.args.at e kids p m;
      refused = λ kids. empty_passes_refused s c.args.at e kids p m;
      own = refl;
    }

pub returns : goal.returns
returns c =
    let s = sections c.args.ctx.now.form in
    let e = c.args.child.now in
    let o = c.deref_mut.result.now in
    let new = rw (← c.deref_mut.ensures.value) at c.in_ok-function.ensures in
    record {
      made = λ kids. function_met s e o c.meet_function.new.parent kids
          c.in_ok-meet_function.ensures ∙ first_made s c.args.at o (e ∷ kids) new;
      refused = λ kids. function_met_refused s e o c.meet_function.new.parent kids
          c.in_ok-meet_function.ensures ∙ first_refused s c.args.at o (e ∷ kids) new;
      own = refl;
    }
