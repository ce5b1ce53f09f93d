-- An open enumeration comes to its row, one child after the other.
use Rattle.std.proofs.Common.{◌≡◌, ℕ, ◌==◌, ◌&&◌, not, Bool, true, false, List, [], ◌∷◌, ◌++◌}
use Rattle.std.proofs.Common.{length, map, Option, None, if◌then◌else◌, refl, sym, ap, ◌∙◌}
use Rattle.std.proofs.lemmas.List.{append-nil, length-map}
use Rattle.std.proofs.Math.Bool.{or-false}
use Rattle.std.specs.declared.alloc.Global.{Global}
use Rattle.std.specs.declared.boxed.Box.{Box}
use Rattle.dwarf_forms.specs.Meanings.{Sections}
use Rattle.entry_tree.specs.Items.{Given}
use Rattle.c_types.specs.declared.open.OpenEnumeration.{OpenEnumeration}
use Rattle.c_types.specs.declared.open.OpenType.TheVariants.{Enumeration}
use Rattle.type_attributes.specs.declared.source.SourceType.{SourceType}
use Rattle.type_attributes.specs.declared.fault.TypeFault.{TypeFault}
use Rattle.type_attributes.specs.Scopes.{Scope}
use Rattle.type_attributes.specs.Faults.{noted}
use Rattle.type_attributes.specs.Attributes.{name_attr, name_in_full, constant_attr, flag_attr}
use Rattle.type_attributes.specs.Attributes.{is_set}
use Rattle.type_attributes.specs.Children.{tagged}
use Rattle.type_attributes.specs.Labels.{Row, is_empty, size_in}
use Rattle.type_attributes.specs.Parts.{refusals_by, some_is, some_tagged}
use Rattle.c_types.specs.Taking.{refused_if}
use Rattle.c_types.specs.Structures.{with_refused}
use Rattle.c_types.specs.Enumerations.{is_negative, enumerator_part, enumerator_refused}
use Rattle.c_types.specs.Enumerations.{enum_size_refused, enumeration_label, bare_row}
use Rattle.c_types.specs.Enumerations.{enumerated_row, enumeration_row}
use Rattle.c_types.specs.Opened.{all_some, all_negative, all_enumerators, ends_bare, enumeration_by}
use Rattle.c_types.specs.Opened.{enumeration_made, own_sign, too_many, enumerated}
use Rattle.c_types.specs.Opened.{enumeration_refused, GathersEnumerator, ComesTo}
use Rattle.type_attributes.proofs.Noting.{noted_append}
use Rattle.c_types.proofs.Gathering.{gathers, notes, tests, tag_tests}
use Rattle.dwarf_abbrev.specs.declared.constants.TheConstants.{DW_AT_byte_size, DW_AT_declaration}
use Rattle.dwarf_abbrev.specs.declared.constants.TheConstants.{DW_TAG_enumerator}

made_is : (c : Sections) (o : OpenEnumeration) (kids : List Given) → enumeration_made c o kids
    ≡ enumeration_by o (ends_bare o kids) (all_negative o kids) (all_enumerators c o kids)
unfolding enumeration_made
made_is c o kids = refl

refused_is : (c : Sections) (o : OpenEnumeration) (kids : List Given)
    → enumeration_refused c o kids ≡ (if ends_bare o kids then o.fault_if_bare
    else enumerated c o (all_negative o kids) (length (all_enumerators c o kids)) kids)
unfolding enumeration_refused
refused_is c o kids = refl

-- without children to come
abbrev pub is_bare_now : OpenEnumeration → Bool
is_bare_now o = not o.has_some && not (is_empty o.name)

pub made_closed : (c : Sections) (o : OpenEnumeration)
    → enumeration_made c o [] ≡ enumeration_by o (is_bare_now o) o.has_negative o.parts.items
made_closed c o =
    let s : all_some o [] ≡ o.has_some = or-false o.has_some in
    let n : all_negative o [] ≡ o.has_negative = or-false o.has_negative in
    let p : all_enumerators c o [] ≡ o.parts.items = append-nil o.parts.items in
    made_is c o [] ∙ rw (s, n, p) refl

pub refused_closed : (c : Sections) (o : OpenEnumeration)
    → enumeration_refused c o [] ≡ (if is_bare_now o then o.fault_if_bare
    else noted (own_sign o o.has_negative) (too_many o.at (length o.parts.items)))
refused_closed c o =
    let s : all_some o [] ≡ o.has_some = or-false o.has_some in
    let n : all_negative o [] ≡ o.has_negative = or-false o.has_negative in
    let p : all_enumerators c o [] ≡ o.parts.items = append-nil o.parts.items in
    refused_is c o [] ∙ rw (s, n, p) refl

pub own_signed : (o : OpenEnumeration) → o.has_negative ≡ true
    → own_sign o o.has_negative ≡ o.fault_if_signed
own_signed o e = rw e refl

pub own_unsigned : (o : OpenEnumeration) → o.has_negative ≡ false
    → own_sign o o.has_negative ≡ o.fault_if_unsigned
own_unsigned o e = rw e refl

-- a child is met
module _ (c : Sections) (e : Given) (o p : OpenEnumeration) (kids : List Given)
    (g : GathersEnumerator c e o p) where
  some_met : all_some p kids ≡ all_some o (e ∷ kids)
  some_met =
      tests (λ (k : Given). k.tag == DW_TAG_enumerator) (e ∷ kids) kids e o.has_some p.has_some
      (all_some o (e ∷ kids)) refl g.has_some refl

  negative_met : all_negative p kids ≡ all_negative o (e ∷ kids)
  negative_met =
      tag_tests DW_TAG_enumerator is_negative (e ∷ kids) kids e o.has_negative p.has_negative
      (all_negative o (e ∷ kids)) refl g.has_negative refl

  parts_met : all_enumerators c p kids ≡ all_enumerators c o (e ∷ kids)
  parts_met =
      ap (λ (w : Bool).
      p.parts.items ++ map (enumerator_part c w) (tagged DW_TAG_enumerator kids)) g.wide
      ∙ gathers DW_TAG_enumerator (enumerator_part c o.wide)
      (e ∷ kids) kids e o.parts.items p.parts.items
      (all_enumerators c o (e ∷ kids)) refl g.parts refl

  bare_met : ends_bare p kids ≡ ends_bare o (e ∷ kids)
  bare_met = rw (g.name, some_met) refl

  own_met : (b : Bool)
      → own_sign p b
      ≡ noted (own_sign o b) (refused_if DW_TAG_enumerator (enumerator_refused c o.wide b) e)
  own_met true = g.signed
  own_met false = g.unsigned

  enumerated_met : (b : Bool) (count : ℕ)
      → enumerated c p b count kids ≡ enumerated c o b count (e ∷ kids)
  enumerated_met b count =
      let many = too_many o.at count in
      let n : noted (own_sign p b)
      (refusals_by (enumerator_refused c o.wide b) (tagged DW_TAG_enumerator kids))
      ≡ noted (own_sign o b)
      (refusals_by (enumerator_refused c o.wide b) (tagged DW_TAG_enumerator (e ∷ kids))) =
      notes DW_TAG_enumerator (enumerator_refused c o.wide b) (e ∷ kids) kids e (own_sign o b)
      (own_sign p b) _ refl (own_met b) refl in
      ap (λ (w : Bool). noted (own_sign p b)
      (refusals_by (enumerator_refused c w b) (tagged DW_TAG_enumerator kids)
      ++ too_many p.at count)) g.wide
      ∙ ap (λ (at : ℕ). noted (own_sign p b)
      (refusals_by (enumerator_refused c o.wide b) (tagged DW_TAG_enumerator kids)
      ++ too_many at count)) g.at
      ∙ noted_append (own_sign p b) (refusals_by (enumerator_refused c o.wide b)
      (tagged DW_TAG_enumerator kids)) many ∙ ap (λ (x : Option TypeFault). noted x many) n
      ∙ sym (noted_append (own_sign o b)
      (refusals_by (enumerator_refused c o.wide b) (tagged DW_TAG_enumerator (e ∷ kids))) many)

  pub enumeration_met : enumeration_made c p kids ≡ enumeration_made c o (e ∷ kids)
  enumeration_met = made_is c p kids ∙ rw (
    bare_met,
    negative_met,
    parts_met,
    g.at,
    g.name,
    g.wide,
    g.size,
  ) (sym (made_is c o (e ∷ kids)))

  pub enumeration_met_refused : enumeration_refused c p kids ≡ enumeration_refused c o (e ∷ kids)
  enumeration_met_refused =
      refused_is c p kids
      ∙ rw (
        bare_met,
        negative_met,
        parts_met,
        enumerated_met (all_negative o (e ∷ kids))
            (length (all_enumerators c o (e ∷ kids))),
        g.bare,
      ) (sym (refused_is c o (e ∷ kids)))

-- an enumeration begins
pub record IsFresh (c : Sections) (e : Given) (o : OpenEnumeration) : Type 0 where
  pub at : o.at ≡ e.at
  pub name : o.name ≡ name_in_full (name_attr c e)
  pub size : o.size ≡ size_in (constant_attr DW_AT_byte_size e).value
  pub wide : o.wide ≡ (size_in (constant_attr DW_AT_byte_size e).value == 8)
  pub has_some : o.has_some ≡ false
  pub has_negative : o.has_negative ≡ false
  pub parts : o.parts.items ≡ []
  pub bare : o.fault_if_bare
      ≡ noted (noted None (flag_attr DW_AT_declaration e).refused) (name_attr c e).refused
  pub unsigned : o.fault_if_unsigned
      ≡ noted (noted o.fault_if_bare (constant_attr DW_AT_byte_size e).refused)
      (enum_size_refused e.at (constant_attr DW_AT_byte_size e).value)
  pub signed : o.fault_if_signed
      ≡ noted (noted o.fault_if_bare (constant_attr DW_AT_byte_size e).refused)
      (enum_size_refused e.at (constant_attr DW_AT_byte_size e).value)

abbrev named : Sections → Given → List ℕ
named c e = name_in_full (name_attr c e)

-- its row, by whether it has a name and no enumerator
abbrev row_by : Sections → Given → Bool → Bool → List Given → Row
row_by c e bare negative enumerators = if bare then bare_row (named c e) e false
    else enumerated_row (named c e) e c negative enumerators

abbrev bare_of : Sections → Given → List Given → Bool
bare_of c e kids = not (some_tagged DW_TAG_enumerator kids) && not (is_empty (named c e))

row_open : (c : Sections) (e : Given) (kids : List Given)
    → is_set (flag_attr DW_AT_declaration e) ≡ false
    → enumeration_row c e kids
    ≡ with_refused ((flag_attr DW_AT_declaration e).refused ++ (name_attr c e).refused)
    (row_by c e (bare_of c e kids) (some_is is_negative (tagged DW_TAG_enumerator kids))
    (tagged DW_TAG_enumerator kids))
row_open c e kids h = rw h refl

abbrev made_by : Sections → Given → Bool → Bool → List Given → SourceType
made_by c e bare negative enumerators =
    record {
      at = e.at;
      label = if bare
          then enumeration_label false (named c e) false 4 []
          else enumeration_label (size_in (constant_attr DW_AT_byte_size e).value == 8)
          (named c e) negative
          (size_in (constant_attr DW_AT_byte_size e).value)
          (map (enumerator_part c (size_in (constant_attr DW_AT_byte_size e).value == 8))
          enumerators);
      targets = [];
    }

made_way : (c : Sections) (e : Given) (bare negative : Bool) (enumerators : List Given)
    → made_by c e bare negative enumerators ≡ (row_by c e bare negative enumerators).made
made_way c e true negative enumerators = refl
made_way c e false negative enumerators = refl

fresh_own : (o : OpenEnumeration) (x : Option TypeFault) (b : Bool) → o.fault_if_unsigned ≡ x
    → o.fault_if_signed ≡ x
    → own_sign o b ≡ x
fresh_own o x true p q = q
fresh_own o x false p q = p

several : (d n s z r t : List TypeFault) → noted (noted (noted (noted (noted None d) n) s) z)
    (r ++ t) ≡ noted None ((d ++ n) ++ (s ++ (z ++ (r ++ t))))
several d n s z r t = simp noted_append

by_way : (b : Bool) (x y : Option TypeFault) (fs : List TypeFault) (r q : Row)
    → x ≡ noted None (fs ++ r.refused) → y ≡ noted None (fs ++ q.refused)
    → (if b then x else y) ≡ noted None (fs ++ (if b then r else q).refused)
by_way true x y fs r q h k = h
by_way false x y fs r q h k = k

module _ (c : Sections) (e : Given) (o : OpenEnumeration) (h : IsFresh c e o) where
  bare_way : o.fault_if_bare
      ≡ noted None (((flag_attr DW_AT_declaration e).refused ++ (name_attr c e).refused)
      ++ (bare_row (named c e) e false).refused)
  bare_way =
      h.bare ∙ sym
      (noted_append None (flag_attr DW_AT_declaration e).refused (name_attr c e).refused)
      ∙ ap (λ (fs : List TypeFault). noted None fs)
      (sym (append-nil ((flag_attr DW_AT_declaration e).refused ++ (name_attr c e).refused)))

  enumerated_way : (kids : List Given) (negative : Bool)
      → enumerated c o negative
      (length (map (enumerator_part c o.wide) (tagged DW_TAG_enumerator kids))) kids
      ≡ noted None (((flag_attr DW_AT_declaration e).refused ++ (name_attr c e).refused)
      ++ (enumerated_row (named c e) e c negative (tagged DW_TAG_enumerator kids)).refused)
  enumerated_way kids negative =
      rw (
        fresh_own o _ negative h.unsigned h.signed,
        h.bare,
        h.wide,
        h.at,
        length-map
            (tagged DW_TAG_enumerator kids)
            (enumerator_part c (size_in (constant_attr DW_AT_byte_size e).value == 8)),
      )
      (several (flag_attr DW_AT_declaration e).refused (name_attr c e).refused
      (constant_attr DW_AT_byte_size e).refused
      (enum_size_refused e.at (constant_attr DW_AT_byte_size e).value)
      (refusals_by
      (enumerator_refused c (size_in (constant_attr DW_AT_byte_size e).value == 8) negative)
      (tagged DW_TAG_enumerator kids)) (too_many e.at (length (tagged DW_TAG_enumerator kids))))

  fresh_refused : (kids : List Given) → enumeration_refused c o kids
      ≡ noted None
      (((flag_attr DW_AT_declaration e).refused ++ (name_attr c e).refused) ++ (row_by c e
      (bare_of c e kids) (some_is is_negative (tagged DW_TAG_enumerator kids))
      (tagged DW_TAG_enumerator kids)).refused)
  fresh_refused kids =
      let negative = some_is is_negative (tagged DW_TAG_enumerator kids) in
      let ways : ends_bare o kids ≡ bare_of c e kids = rw (h.name, h.has_some) refl in
      let n : all_negative o kids ≡ some_is is_negative (tagged DW_TAG_enumerator kids) =
      rw h.has_negative refl in
      let p : all_enumerators c o kids
      ≡ map (enumerator_part c o.wide) (tagged DW_TAG_enumerator kids) =
      rw h.parts refl in
      refused_is c o kids
      ∙ rw (ways, n, p)
      (by_way (bare_of c e kids) _ _
      ((flag_attr DW_AT_declaration e).refused ++ (name_attr c e).refused)
      (bare_row (named c e) e false) (enumerated_row (named c e) e c negative
      (tagged DW_TAG_enumerator kids)) bare_way (enumerated_way kids negative))

  fresh_made : (kids : List Given) → enumeration_made c o kids
      ≡ made_by c e (bare_of c e kids) (some_is is_negative (tagged DW_TAG_enumerator kids))
      (tagged DW_TAG_enumerator kids)
  fresh_made kids =
      made_is c o kids ∙ rw (h.at, h.name, h.has_some, h.has_negative, h.parts, h.size, h.wide) refl

  came_made : is_set (flag_attr DW_AT_declaration e) ≡ false → (kids : List Given)
      → enumeration_made c o kids ≡ (enumeration_row c e kids).made
  came_made defined kids = fresh_made kids
      ∙ made_way c e (bare_of c e kids) (some_is is_negative (tagged DW_TAG_enumerator kids))
      (tagged DW_TAG_enumerator kids)
      ∙ ap (λ (r : Row). r.made) (sym (row_open c e kids defined))

  came_refused : is_set (flag_attr DW_AT_declaration e) ≡ false → (kids : List Given)
      → enumeration_refused c o kids ≡ noted None (enumeration_row c e kids).refused
  came_refused defined kids =
      fresh_refused kids ∙ ap (λ (r : Row). noted None r.refused) (sym (row_open c e kids defined))

pub enumeration_comes : (s : Scope) (e : Given) (b : Box OpenEnumeration Global)
    → IsFresh s.sections e b.value → is_set (flag_attr DW_AT_declaration e) ≡ false
    → ComesTo s (Enumeration b) (enumeration_row s.sections e)
enumeration_comes s e b h defined = record {
  made = came_made s.sections e b.value h defined;
  refused = came_refused s.sections e b.value h defined;
}
