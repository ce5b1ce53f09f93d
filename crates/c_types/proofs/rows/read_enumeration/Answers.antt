use Rattle.std.proofs.Common.{◌≡◌, ◌++◌, ◌∙◌, true, None, List, Option, refl, sym}
use Rattle.std.proofs.Common.{ap, append_assoc}
use Rattle.dwarf_forms.specs.Meanings.{sections}
use Rattle.type_attributes.specs.declared.fault.TypeFault.{TypeFault}
use Rattle.type_attributes.specs.Attributes.{is_set, flag_attr, name_attr, name_in_full}
use Rattle.type_attributes.specs.Faults.{noted}
use Rattle.type_attributes.proofs.Noting.{noted_append}
use Rattle.c_types.specs.Enumerations.{bare_row}
use Rattle.c_types.proofs.Stack.{row_declared}
use Rattle.c_types.proofs.rows.read_enumeration.Goals as goal
use Rattle.dwarf_abbrev.specs.declared.constants.TheConstants.{DW_AT_declaration}

pub returns-then-flag : goal.returns-then-flag
returns-then-flag c =
    let s = sections c.args.ctx.now.form in
    let e = c.args.entry.now in
    let set : is_set (flag_attr DW_AT_declaration e) ≡ true = sym c.if-flag.ensures.value in
    let flags = (flag_attr DW_AT_declaration e).refused in
    let names = (name_attr s e).refused in
    let bare = (bare_row (name_in_full (name_attr s e)) e true).refused in
    record {
      made = λ kids. c.declared_enumeration-declaration.ensures.made
          ∙ sym (row_declared s e kids set).0;
      refused = λ kids. c.declared_enumeration-declaration.ensures.noted
          ∙ ap (λ (o : Option TypeFault). noted o (names ++ bare)) c.flag.ensures.noted
          ∙ sym (noted_append None flags (names ++ bare))
          ∙ ap (λ (fs : List TypeFault). noted None fs)
          (sym (append_assoc flags names bare) ∙ sym (row_declared s e kids set).1);
    }

pub returns : goal.returns
returns c = record { comes = c.in_ok-enumeration.ensures; own = refl }
