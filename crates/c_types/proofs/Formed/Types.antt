-- All types of a unit.
use Rattle.std.proofs.Common.{◌≡◌, ◌-◌, ◌==◌, Bool, true, false, List, [], ◌∷◌, length, Option}
use Rattle.std.proofs.Common.{None, Some, Ok, if◌then◌else◌, subst}
use Rattle.std.specs.Prelude.{All}
use Rattle.std.proofs.lemmas.List.Elements.{All-nil, All-cons, All-head, All-tail, All-append}
use Rattle.dwarf_forms.specs.Meanings.{Sections}
use Rattle.entry_tree.specs.Items.{Given}
use Rattle.entry_tree.specs.declared.fault.WalkFault.{WalkFault}
use Rattle.type_attributes.specs.declared.source.SourceType.{SourceType}
use Rattle.type_attributes.specs.declared.source.Target.{Target}
use Rattle.type_attributes.specs.declared.source.UnitTypes.{UnitTypes}
use Rattle.type_attributes.specs.Scopes.{Scope}
use Rattle.type_attributes.specs.Faults.{least}
use Rattle.type_attributes.specs.Children.{children_of}
use Rattle.type_attributes.specs.Labels.{Row}
use Rattle.type_attributes.specs.Parts.{some_tagged}
use Rattle.c_types.specs.Arrays.{array_row}
use Rattle.c_types.specs.Functions.{function_row}
use Rattle.c_types.specs.Structures.{structure_row}
use Rattle.c_types.specs.Enumerations.{enumeration_row}
use Rattle.c_types.specs.Pointers.{pointer_row, pointed_in, is_tag_entry, tag_type, tag_made}
use Rattle.c_types.specs.Pointers.{annotation_refused}
use Rattle.c_types.specs.Types.{plain_row_of, row_of, made_in, listed, refused_in, made_of}
use Rattle.c_types.specs.Types.{refused_of, types_of, refusals_of, or_least, unit_types, types_in}
use Rattle.c_types.specs.Formed.{IsFormed, AreFormed}
use Rattle.c_types.proofs.Accepted.{walked, accepted}
use Rattle.c_types.proofs.Formed.Refused.{least_none, first_empty, second_empty}
use Rattle.c_types.proofs.Formed.Names.{IsNamedCleanly}
use Rattle.c_types.proofs.Formed.Children.{children_all}
use Rattle.c_types.proofs.Formed.Plain.{IsFormedIn, either_row, plain_formed, pointer_row_formed}
use Rattle.c_types.proofs.Formed.Plain.{tag_formed, array_row_formed}
use Rattle.c_types.proofs.Formed.Functions.{function_row_formed}
use Rattle.c_types.proofs.Formed.Structures.{structure_row_formed}
use Rattle.c_types.proofs.Formed.Enumerations.{enumeration_row_formed}
use Rattle.dwarf_abbrev.specs.declared.constants.TheConstants.{DW_TAG_array_type}
use Rattle.dwarf_abbrev.specs.declared.constants.TheConstants.{DW_TAG_enumeration_type}
use Rattle.dwarf_abbrev.specs.declared.constants.TheConstants.{DW_TAG_pointer_type}
use Rattle.dwarf_abbrev.specs.declared.constants.TheConstants.{DW_TAG_structure_type}
use Rattle.dwarf_abbrev.specs.declared.constants.TheConstants.{DW_TAG_subroutine_type}
use Rattle.dwarf_abbrev.specs.declared.constants.TheConstants.{DW_TAG_union_type}

row_formed : (c : Scope) (e : Given) (after : List Given) → IsNamedCleanly e
    → All IsNamedCleanly after → IsFormedIn (row_of c e after)
row_formed c e after clean all =
    let children = children_of e.depth after in
    let within = children_all IsNamedCleanly e.depth after all in
    either_row (e.tag == DW_TAG_array_type) (array_row c.sections e children) _
    (array_row_formed c.sections e children)
    (either_row (e.tag == DW_TAG_enumeration_type) (enumeration_row c.sections e children) _
    (enumeration_row_formed c.sections e children clean within)
    (either_row (e.tag == DW_TAG_pointer_type) (pointer_row c.sections e children) _
    (pointer_row_formed c.sections e children)
    (either_row (e.tag == DW_TAG_structure_type) (structure_row c false e children) _
    (structure_row_formed c false e children clean within)
    (either_row (e.tag == DW_TAG_subroutine_type) (function_row c.sections e children) _
    (function_row_formed c.sections e children within)
    (either_row (e.tag == DW_TAG_union_type) (structure_row c true e children)
    (plain_row_of c.sections e)
    (structure_row_formed c true e children clean within) (plain_formed c.sections e clean))))))

-- the types of a list are formed
abbrev Formed : SourceType → Type 0
Formed t = IsFormed t.label (length t.targets)

one_formed : (o : Option Row) → IsFormedIn o → refused_in o ≡ [] → AreFormed (listed (made_in o))
one_formed None h none = All-nil Formed
one_formed (Some r) h none = All-cons Formed r.made [] (h none) (All-nil Formed)

tag_made_formed : (c : Sections) (pointed : Option Target) (e : Given) (after : List Given)
    → IsNamedCleanly e → AreFormed (listed (tag_made c pointed e after))
tag_made_formed c None e after clean = All-nil Formed
tag_made_formed c (Some own) e after clean = All-cons Formed
    (tag_type c own e (children_of (e.depth - 1) after)) [] (tag_formed c e clean) (All-nil Formed)

either_formed : (t : Bool) (x y : Option SourceType) → AreFormed (listed x) → AreFormed (listed y)
    → AreFormed (listed (if t then x else y))
either_formed true x y h k = h
either_formed false x y h k = k

list_formed : (c : Scope) (earlier es : List Given) → All IsNamedCleanly es
    → refusals_of c earlier es ≡ [] → AreFormed (types_of c earlier es)
list_formed c earlier [] clean none = All-nil Formed
list_formed c earlier (e ∷ es) clean none =
    let pointed = pointed_in c.sections earlier e.depth in
    let here = All-head IsNamedCleanly e es clean in
    let later = All-tail IsNamedCleanly e es clean in
    let mine : refused_of c pointed e es ≡ [] =
    first_empty (refused_of c pointed e es) (refusals_of c (e ∷ earlier) es) none in
    All-append Formed (listed (made_of c pointed e es)) (types_of c (e ∷ earlier) es)
    (either_formed (is_tag_entry c.sections pointed e) (tag_made c.sections pointed e es)
    (made_in (row_of c e es)) (tag_made_formed c.sections pointed e es here)
    (one_formed (row_of c e es) (row_formed c e es here later)
    (second_empty (annotation_refused c.sections pointed e) (refused_in (row_of c e es)) mine)))
    (list_formed c (e ∷ earlier) es later
    (second_empty (refused_of c pointed e es) (refusals_of c (e ∷ earlier) es) none))

pub types_in_formed : (c : Scope) (ending : Option WalkFault) (t : UnitTypes)
    → All IsNamedCleanly c.entries → types_in c ending ≡ Ok t → AreFormed t.types
types_in_formed c ending t clean e =
    let u : UnitTypes =
    unit_types (some_tagged DW_TAG_array_type c.entries) (types_of c [] c.entries) in
    let a = accepted u t (least (refusals_of c [] c.entries))
    (walked ending (or_least u (least (refusals_of c [] c.entries))) t e) in
    subst (λ (v : UnitTypes). AreFormed v.types) a.1
    (list_formed c [] c.entries clean (least_none (refusals_of c [] c.entries) a.0))
