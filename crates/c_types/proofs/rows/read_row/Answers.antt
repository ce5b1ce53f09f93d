use Rattle.std.proofs.Common.{◌≡◌, ◌==◌, ◌∙◌, false, sym, rules}
use Rattle.std.proofs.lemmas.Result.{IfOk-weaker}
use Rattle.dwarf_abbrev.specs.declared.constants.TheConstants.{DW_TAG_array_type}
use Rattle.dwarf_abbrev.specs.declared.constants.TheConstants.{DW_TAG_enumeration_type}
use Rattle.dwarf_abbrev.specs.declared.constants.TheConstants.{DW_TAG_structure_type}
use Rattle.dwarf_abbrev.specs.declared.constants.TheConstants.{DW_TAG_subroutine_type}
use Rattle.dwarf_abbrev.specs.declared.constants.TheConstants.{DW_TAG_union_type}
use Rattle.type_attributes.specs.Scopes.{scope}
use Rattle.c_types.proofs.RowTags.{enumeration_starts, structure_starts, union_starts, other_starts}
use Rattle.c_types.proofs.rows.read_row.Goals as goal

pub returns-in_ok-read_enumeration-in-4 : goal.returns-in_ok-read_enumeration-in-4
returns-in_ok-read_enumeration-in-4 c = enumeration_starts (scope c.args.ctx.now) c.args.entry.now _
    (sym c.tag.ensures ∙ c.in-4.is) c.in_ok-read_enumeration-in-4.ensures

pub returns-in_ok-read_structure-in-19 : goal.returns-in_ok-read_structure-in-19
returns-in_ok-read_structure-in-19 c = structure_starts (scope c.args.ctx.now) c.args.entry.now _
    (sym c.tag.ensures ∙ c.in-19.is) c.in_ok-read_structure-in-19.ensures

pub returns-in_ok-read_structure-in-23 : goal.returns-in_ok-read_structure-in-23
returns-in_ok-read_structure-in-23 c = union_starts (scope c.args.ctx.now) c.args.entry.now _
    (sym c.tag.ensures ∙ c.in-23.is) c.in_ok-read_structure-in-23.ensures

pub returns-in_default : goal.returns-in_default
returns-in_default c =
    let array : (c.args.entry.now.tag == DW_TAG_array_type) ≡ false = search rules in
    let enumeration : (c.args.entry.now.tag == DW_TAG_enumeration_type) ≡ false = search rules in
    let structure : (c.args.entry.now.tag == DW_TAG_structure_type) ≡ false = search rules in
    let subroutine : (c.args.entry.now.tag == DW_TAG_subroutine_type) ≡ false = search rules in
    let union : (c.args.entry.now.tag == DW_TAG_union_type) ≡ false = search rules in
    IfOk-weaker c.read_plain.result _ _ (λ o h. other_starts (scope c.args.ctx.now)
    c.args.entry.now o array enumeration c.requires structure subroutine union h)
    c.read_plain.ensures
