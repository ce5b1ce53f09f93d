use Rattle.std.proofs.Common.{◌≡◌, ◌++◌, ◌∙◌, ℕ, [], Bool, true, false, not, List}
use Rattle.std.proofs.Common.{if◌then◌else◌, sym, ap}
use Rattle.std.proofs.lemmas.Bool.{eq-eqb}
use Rattle.dwarf_forms.specs.Meanings.{sections}
use Rattle.type_attributes.specs.Attributes.{name_attr, flag_attr}
use Rattle.type_attributes.specs.Faults.{noted}
use Rattle.type_attributes.specs.Labels.{is_empty}
use Rattle.func_entries.specs.Functions.{has_name, is_function}
use Rattle.func_entries.proofs.Heads.{function_by, named_by_refusal, named_by_name, values_noted}
use Rattle.func_entries.proofs.walking.read_head.Goals as goal
use Rattle.func_entries.proofs.walking.read_head.Goals.{else-is_none-via-then-is_none+else-is_unnamed}
use Rattle.func_entries.proofs.walking.read_head.Goals.{else-is_none-via-else-is_none}
use Rattle.dwarf_abbrev.specs.declared.constants.TheConstants.{DW_AT_declaration, DW_AT_external}
use Rattle.dwarf_abbrev.specs.declared.constants.TheConstants.{DW_TAG_subprogram}

pub returns-clause-noted : goal.returns-clause-noted
returns-clause-noted c =
    let s = sections c.args.ctx.now in
    let e = c.args.entry.now in
    let name = name_attr s e in
    let names = name.refused in
    let declarations = (flag_attr DW_AT_declaration e).refused in
    let externals = (flag_attr DW_AT_external e).refused in
    let named : has_name
    (name_attr (sections c.args.ctx.now) c.args.entry.now) ≡ true =
    elim c.else-is_none.branch [
      | else-is_none-via-then-is_none+else-is_unnamed w ↦ named_by_name name
          (ap (λ (n : List ℕ). is_empty n) (sym c.name-name.ensures.value)
          ∙ sym w.is_unnamed.ensures
          ∙ w.if-is_unnamed.false)
      | else-is_none-via-else-is_none w ↦ named_by_refusal name c.name-name.new.least
          c.name-name.ensures.noted
          (c.is_none.ensures ∙ ap (λ (b : Bool). not b) w.if-is_none.false)
    ] in
    let is : is_function (sections c.args.ctx.now) c.args.entry.now ≡ true =
    function_by s e true true false
    (eq-eqb e.tag DW_TAG_subprogram
    (rw c.tag.ensures at c.if-tag-ne-DW_TAG_subprogram.false))
    named (sym c.if-flag.ensures.value) in
    c.join.ensures
    ∙ values_noted c.args.least.now c.name-name.new.least c.flag.new.least
    c.flag-external.new.least names declarations externals c.name-name.ensures.noted
    c.flag.ensures.noted c.flag-external.ensures.noted
    ∙ ap (λ (b : Bool).
    noted c.args.least.now (if b then names ++ (declarations ++ externals) else [])) (sym is)
