use Rattle.std.proofs.Common.{◌≡◌, ◌∙◌, true, None, List, Option, refl, sym, ap}
use Rattle.type_attributes.specs.Scopes.{scope}
use Rattle.type_attributes.specs.declared.fault.TypeFault.{TypeFault}
use Rattle.type_attributes.specs.Attributes.{is_set, flag_attr}
use Rattle.type_attributes.specs.Faults.{noted}
use Rattle.type_attributes.proofs.Noting.{noted_append}
use Rattle.c_types.specs.Structures.{forward_row}
use Rattle.c_types.proofs.Stack.{row_forward}
use Rattle.c_types.proofs.rows.read_structure.Goals as goal
use Rattle.dwarf_abbrev.specs.declared.constants.TheConstants.{DW_AT_declaration}

pub returns-then-flag : goal.returns-then-flag
returns-then-flag c =
    let s = scope c.args.ctx.now in
    let e = c.args.entry.now in
    let set : is_set (flag_attr DW_AT_declaration e) ≡ true = sym c.if-flag.ensures.value in
    let flags = (flag_attr DW_AT_declaration e).refused in
    let forwards = (forward_row s c.args.is_union e).refused in
    record {
      made = λ kids. c.forward-declaration.ensures.made
          ∙ sym (row_forward s c.args.is_union e kids set).0;
      refused = λ kids. c.forward-declaration.ensures.noted
          ∙ ap (λ (o : Option TypeFault). noted o forwards) c.flag.ensures.noted
          ∙ sym (noted_append None flags forwards)
          ∙ ap (λ (fs : List TypeFault). noted None fs)
          (sym (row_forward s c.args.is_union e kids set).1);
    }

pub returns : goal.returns
returns c = record { comes = c.in_ok-structure.ensures; own = refl }
