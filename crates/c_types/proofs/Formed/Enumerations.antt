-- Enumerations.
use Rattle.std.proofs.Common.{◌≡◌, ℕ, ◌<◌, ◌≤◌, ◌==◌, ◌&&◌, ◌||◌, not, nat_lt, Bool, true, false}
use Rattle.std.proofs.Common.{List, [], ◌∷◌, ◌++◌, length, map, Option, None, Some, if◌then◌else◌}
use Rattle.std.proofs.Common.{refl, ap, ◌∙◌, arith}
use Rattle.std.specs.Prelude.{All}
use Rattle.std.proofs.lemmas.Bool.{ne_eqb}
use Rattle.std.proofs.lemmas.List.{length-map}
use Rattle.std.proofs.Math.Bool.{and-false}
use Rattle.c_model.specs.Kinds.{PartRow}
use Rattle.dw_base.specs.Texts.{HasNoNul}
use Rattle.dwarf_forms.specs.Meanings.{Sections}
use Rattle.entry_tree.specs.Items.{Given}
use Rattle.type_attributes.specs.declared.number.Number.{Number}
use Rattle.type_attributes.specs.declared.number.Number.TheVariants.{Natural, Negative}
use Rattle.type_attributes.specs.Attributes.{name_attr, name_in_full, constant_attr, number_value}
use Rattle.type_attributes.specs.Attributes.{flag_attr, is_set}
use Rattle.type_attributes.specs.Children.{tagged}
use Rattle.type_attributes.specs.Labels.{is_empty, size_in}
use Rattle.type_attributes.specs.Parts.{refusals_by, some_is, some_tagged}
use Rattle.c_types.specs.Enumerations.{is_negative, residue, residue_in, enumerator_part}
use Rattle.c_types.specs.Enumerations.{enumerator_refused, enum_size_refused, enumerated_row}
use Rattle.c_types.specs.Enumerations.{bare_row, is_bare, enumeration_row}
use Rattle.c_types.proofs.Formed.Refused.{second_empty}
use Rattle.c_types.proofs.Formed.Names.{IsNamedCleanly, name_clean}
use Rattle.c_types.proofs.Formed.Children.{tagged_all, some_counted}
use Rattle.c_types.proofs.Formed.Kinds.{limit, bare_formed, enumeration_formed}
use Rattle.c_types.proofs.Formed.Plain.{IsFormedRow, size_fits}
use Rattle.c_types.proofs.Formed.Functions.{named_part, parts_fit, few_parts}
use Rattle.c_types.proofs.Formed.Structures.{more_refused}
use Rattle.dwarf_abbrev.specs.declared.constants.TheConstants.{DW_AT_byte_size, DW_AT_const_value}
use Rattle.dwarf_abbrev.specs.declared.constants.TheConstants.{DW_AT_declaration, DW_TAG_enumerator}

residue_small : (wide : Bool) (n : Number) → residue wide n < limit wide
residue_small true (Natural n) = omega arith
residue_small false (Natural n) = omega arith
residue_small true (Negative n) = omega arith
residue_small false (Negative n) = omega arith

in_small : (wide : Bool) (o : Option Number) → residue_in wide o < limit wide
in_small true None = omega arith
in_small false None = omega arith
in_small wide (Some n) = residue_small wide n

bare_row_formed : (c : Sections) (e : Given) (declared : Bool) → IsNamedCleanly e
    → IsFormedRow (bare_row (name_in_full (name_attr c e)) e declared)
bare_row_formed c e declared clean none =
    bare_formed (name_in_full (name_attr c e)) (name_clean c e clean)

not_bare : (declared some : Bool) (name : List ℕ) (count : ℕ) → (some ≡ true → 0 < count)
    → (declared || (not some && not (is_empty name))) ≡ false
    → (nat_lt 0 (length name) && (count == 0)) ≡ false
not_bare true some name count has e = cc
not_bare false true name count has e = let k : (count == 0) ≡ false =
    ne_eqb count 0 (λ (z : count ≡ 0). omega (arith, has refl)) in
    ap (λ (b : Bool). nat_lt 0 (length name) && b) k ∙ and-false (nat_lt 0 (length name))
not_bare false false [] count has e = refl
not_bare false false (b ∷ bs) count has e = cc

enumerated_row_formed : (name : List ℕ) (c : Sections) (e : Given) (signed : Bool) (es : List Given)
    → HasNoNul name → All IsNamedCleanly es → ((nat_lt 0 (length name) && (length es == 0)) ≡ false)
    → IsFormedRow (enumerated_row name e c signed es)
enumerated_row_formed name c e signed es clean all named none =
    let size = constant_attr DW_AT_byte_size e in
    let wide = size_in size.value == 8 in
    let row : PartRow = record { named = true; refers = false; value = limit wide } in
    let count : length (map (enumerator_part c wide) es) ≡ length es =
    length-map es (enumerator_part c wide) in
    let few : length es ≤ 65535 =
    few_parts e.at (length es) (second_empty (refusals_by (enumerator_refused c wide signed) es)
    _ (second_empty (enum_size_refused e.at size.value) _ (second_empty size.refused _ none))) in
    enumeration_formed wide name signed (size_in size.value) (map (enumerator_part c wide) es) clean
    (size_fits size.value) (omega arith)
    (parts_fit row (enumerator_part c wide) es
    (λ (m : Given) (h : IsNamedCleanly m). named_part false (limit wide)
    (name_in_full (name_attr c m))
    (residue_in wide (number_value (constant_attr DW_AT_const_value m)))
    (name_clean c m h) (in_small wide (number_value (constant_attr DW_AT_const_value m)))) all)
    (ap (λ (n : ℕ). nat_lt 0 (length name) && (n == 0)) count ∙ named)

pub enumeration_row_formed : (c : Sections) (e : Given) (children : List Given) → IsNamedCleanly e
    → All IsNamedCleanly children → IsFormedRow (enumeration_row c e children)
enumeration_row_formed c e children clean all =
    more_refused ((flag_attr DW_AT_declaration e).refused ++ (name_attr c e).refused)
    (if is_bare (is_set (flag_attr DW_AT_declaration e)) (name_in_full (name_attr c e)) children
    then bare_row (name_in_full (name_attr c e)) e (is_set (flag_attr DW_AT_declaration e))
    else enumerated_row (name_in_full (name_attr c e)) e c
    (some_is is_negative (tagged DW_TAG_enumerator children)) (tagged DW_TAG_enumerator children))
    (by (is_bare (is_set (flag_attr DW_AT_declaration e))
    (name_in_full (name_attr c e)) children) refl)
  where
    by : (t : Bool)
        → is_bare (is_set (flag_attr DW_AT_declaration e))
        (name_in_full (name_attr c e)) children ≡ t
        → IsFormedRow (if t then bare_row (name_in_full (name_attr c e)) e
        (is_set (flag_attr DW_AT_declaration e))
        else enumerated_row (name_in_full (name_attr c e)) e c
        (some_is is_negative (tagged DW_TAG_enumerator children))
        (tagged DW_TAG_enumerator children))
    by true t = bare_row_formed c e (is_set (flag_attr DW_AT_declaration e)) clean
    by false t =
        enumerated_row_formed (name_in_full (name_attr c e)) c e
        (some_is is_negative (tagged DW_TAG_enumerator children))
        (tagged DW_TAG_enumerator children)
        (name_clean c e clean) (tagged_all IsNamedCleanly DW_TAG_enumerator children all)
        (not_bare (is_set (flag_attr DW_AT_declaration e)) (some_tagged DW_TAG_enumerator children)
        (name_in_full
        (name_attr c e)) (length (tagged DW_TAG_enumerator children))
        (some_counted DW_TAG_enumerator children) t)
