-- Subroutine types.
use Rattle.std.proofs.Common.{◌≡◌, ℕ, suc, ◌<◌, ◌≤◌, nat_lt, Bool, true, false, List, [], length}
use Rattle.std.proofs.Common.{map, refl, arith}
use Rattle.std.specs.Prelude.{All}
use Rattle.std.proofs.lemmas.Bool.{ltb-false}
use Rattle.std.proofs.lemmas.List.{length-append, length-map}
use Rattle.std.proofs.lemmas.List.Elements.{All-nil, All-cons, All-append, All-map, All-weaker}
use Rattle.c_model.specs.declared.label.Part.{Part}
use Rattle.c_model.specs.Kinds.{PartRow, FitsPart, FitsParts, parameters}
use Rattle.dw_base.specs.Texts.{HasNoNul}
use Rattle.dwarf_forms.specs.Meanings.{Sections}
use Rattle.entry_tree.specs.Items.{Given}
use Rattle.type_attributes.specs.declared.fault.TypeFault.TheVariants.{TooMany}
use Rattle.type_attributes.specs.Faults.{refuse_if}
use Rattle.type_attributes.specs.Attributes.{name_attr, name_in_full, target_attr}
use Rattle.type_attributes.specs.Children.{tagged}
use Rattle.type_attributes.specs.Parts.{part_of, refusals_by, some_tagged, most}
use Rattle.c_types.specs.Functions.{parameter_part, parameter_target, parameter_refused, rest_part}
use Rattle.c_types.specs.Functions.{rest_target, function_parts, function_targets, function_row}
use Rattle.c_types.proofs.Formed.Refused.{second_empty, not_refused}
use Rattle.c_types.proofs.Formed.Names.{IsNamedCleanly, name_clean}
use Rattle.c_types.proofs.Formed.Children.{tagged_all}
use Rattle.c_types.proofs.Formed.Kinds.{no_name, function_formed}
use Rattle.c_types.proofs.Formed.Plain.{IsFormedRow}
use Rattle.dwarf_abbrev.specs.declared.constants.TheConstants.{DW_TAG_formal_parameter}
use Rattle.dwarf_abbrev.specs.declared.constants.TheConstants.{DW_TAG_unspecified_parameters}

-- a part with a name and a value below a limit
pub named_part : (refers : Bool) (limit : ℕ) (name : List ℕ) (value : ℕ) → HasNoNul name
    → value < limit
    → FitsPart (record { named = true; refers = refers; value = limit }) (part_of name value)
named_part refers limit name value clean lt =
    record { unnamed = λ (e : true ≡ false). absurd (cc); name = clean; value = lt }

-- the parts of some entries
pub parts_fit : (row : PartRow) (part : Given → Part) (es : List Given)
    → ((e : Given) → IsNamedCleanly e → FitsPart row (part e)) → All IsNamedCleanly es
    → All (FitsPart row) (map part es)
parts_fit row part es fit clean = All-map (FitsPart row) part es
    (All-weaker IsNamedCleanly (λ (e : Given). FitsPart row (part e)) fit es clean)

-- not too many
pub few_parts : (at n : ℕ) → refuse_if (nat_lt most n) (TooMany at n) ≡ [] → n ≤ 65535
few_parts at n none = ltb-false most n (not_refused (nat_lt most n) (TooMany at n) none)

parameter : PartRow
parameter = record { named = true; refers = true; value = 1 }

rest_fits : (variadic : Bool) → FitsParts parameters (rest_part variadic)
rest_fits true = All-cons (FitsPart (record { named = true; refers = true; value = 1 }))
    (part_of [] 0) [] (named_part true 1 [] 0 no_name (omega arith))
    (All-nil (FitsPart (record { named = true; refers = true; value = 1 })))
rest_fits false = All-nil (FitsPart (record { named = true; refers = true; value = 1 }))

rest_count : (variadic : Bool) → length (rest_target variadic) ≡ length (rest_part variadic)
rest_count true = refl
rest_count false = refl

target_count : (c : Sections) (children : List Given)
    → length (function_targets c children) ≡ length (function_parts c children)
target_count c children =
    let ps = tagged DW_TAG_formal_parameter children in
    let v = some_tagged DW_TAG_unspecified_parameters children in
    omega (
      arith,
      length-append (map (parameter_target c) ps) (rest_target v),
      length-append (map (parameter_part c) ps) (rest_part v),
      length-map ps (parameter_target c),
      length-map ps (parameter_part c),
      rest_count v,
    )

pub function_row_formed : (c : Sections) (e : Given) (children : List Given)
    → All IsNamedCleanly children → IsFormedRow (function_row c e children)
function_row_formed c e children clean none =
    let ps = tagged DW_TAG_formal_parameter children in
    let parts = function_parts c children in
    let row : PartRow = record { named = true; refers = true; value = 1 } in
    function_formed parts (suc (length (function_targets c children)))
    (omega (arith, target_count c children))
    (few_parts e.at (length parts) (second_empty (refusals_by (parameter_refused c) ps) _
    (second_empty (target_attr c e).refused _ none)))
    (All-append (FitsPart row) (map (parameter_part c) ps)
    (rest_part (some_tagged DW_TAG_unspecified_parameters children))
    (parts_fit row (parameter_part c) ps (λ (p : Given) (h : IsNamedCleanly p).
    named_part true 1 (name_in_full (name_attr c p)) 0 (name_clean c p h) (omega arith))
    (tagged_all IsNamedCleanly DW_TAG_formal_parameter children clean))
    (rest_fits (some_tagged DW_TAG_unspecified_parameters children)))
