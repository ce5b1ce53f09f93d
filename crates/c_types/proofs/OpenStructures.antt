-- An open structure comes to its row, one child after the other.
use Rattle.std.proofs.Common.{◌≡◌, ℕ, ◌^◌, ◌≤◌, nat_lt, Bool, true, false, List, [], ◌∷◌}
use Rattle.std.proofs.Common.{◌++◌, length, map, Option, None, if◌then◌else◌, refl, sym, ap, ◌∙◌}
use Rattle.std.proofs.Common.{arith}
use Rattle.std.proofs.lemmas.Bool.{ltb-false, le-ltb}
use Rattle.std.proofs.lemmas.List.{append-nil, length-map}
use Rattle.std.proofs.Math.Bool.{or-false}
use Rattle.entry_tree.specs.Items.{Given}
use Rattle.std.specs.declared.alloc.Global.{Global}
use Rattle.std.specs.declared.boxed.Box.{Box}
use Rattle.c_types.specs.declared.open.OpenStructure.{OpenStructure}
use Rattle.c_types.specs.declared.open.OpenType.TheVariants.{Structure}
use Rattle.type_attributes.specs.declared.fault.TypeFault.{TypeFault}
use Rattle.type_attributes.specs.Scopes.{Scope}
use Rattle.type_attributes.specs.Faults.{noted}
use Rattle.type_attributes.specs.Attributes.{has, flag_attr, is_set, name_attr, name_in_full}
use Rattle.type_attributes.specs.Attributes.{constant_attr}
use Rattle.type_attributes.specs.Children.{tagged}
use Rattle.type_attributes.specs.Labels.{size_in, size_refusals}
use Rattle.type_attributes.specs.Parts.{refusals_by}
use Rattle.c_types.specs.Taking.{refused_if}
use Rattle.type_attributes.specs.Positions.{position_of}
use Rattle.c_types.specs.Structures.{or_zero, near, defined_row, structure_row, member_part}
use Rattle.c_types.specs.Structures.{member_target, member_refused, has_fields}
use Rattle.c_types.specs.Opened.{kept_of, part_from, all_members, all_targets, all_fields}
use Rattle.c_types.specs.Opened.{structure_by, structure_made, own, too_many, structure_refused}
use Rattle.c_types.specs.Opened.{GathersMember, ComesTo}
use Rattle.type_attributes.proofs.Noting.{noted_append}
use Rattle.c_types.proofs.Gathering.{gathers, notes, tag_tests}
use Rattle.dwarf_abbrev.specs.declared.constants.TheConstants.{DW_AT_bit_size, DW_AT_byte_size}
use Rattle.dwarf_abbrev.specs.declared.constants.TheConstants.{DW_AT_declaration, DW_TAG_member}

made_is : (c : Scope) (o : OpenStructure) (kids : List Given) → structure_made c o kids
    ≡ structure_by o (all_fields o kids) (all_members c o kids) (all_targets c o kids)
unfolding structure_made
made_is c o kids = refl

refused_is : (c : Scope) (o : OpenStructure) (kids : List Given)
    → structure_refused c o kids ≡ noted (own o (all_fields o kids)) (refusals_by (member_refused c
    (all_fields o kids)) (tagged DW_TAG_member kids)
    ++ too_many o.at (length (all_members c o kids)))
unfolding structure_refused
refused_is c o kids = refl

-- without children to come
pub made_closed : (c : Scope) (o : OpenStructure)
    → structure_made c o [] ≡ structure_by o o.fields o.members.items o.targets.items
made_closed c o =
    let f : all_fields o [] ≡ o.fields = or-false o.fields in
    let m : all_members c o [] ≡ o.members.items = append-nil o.members.items in
    let t : all_targets c o [] ≡ o.targets.items = append-nil o.targets.items in
    made_is c o [] ∙ rw (f, m, t) refl

pub refused_closed : (c : Scope) (o : OpenStructure)
    → structure_refused c o [] ≡ noted (own o o.fields) (too_many o.at (length o.members.items))
refused_closed c o =
    let f : all_fields o [] ≡ o.fields = or-false o.fields in
    let m : all_members c o [] ≡ o.members.items = append-nil o.members.items in
    refused_is c o [] ∙ rw (f, m) refl

pub own_packed : (o : OpenStructure) → o.fields ≡ true → own o o.fields ≡ o.fault_if_packed
own_packed o e = rw e refl

pub own_plain : (o : OpenStructure) → o.fields ≡ false → own o o.fields ≡ o.fault_if_plain
own_plain o e = rw e refl

-- a child is met
own_gathers : (c : Scope) (e : Given) (o p : OpenStructure) → GathersMember c e o p → (b : Bool)
    → own p b ≡ noted (own o b) (refused_if DW_TAG_member (member_refused c b) e)
own_gathers c e o p g true = g.packed
own_gathers c e o p g false = g.plain

module _ (c : Scope) (e : Given) (o p : OpenStructure) (kids : List Given)
    (g : GathersMember c e o p) where
  fields_met : all_fields p kids ≡ all_fields o (e ∷ kids)
  fields_met = tag_tests DW_TAG_member (has DW_AT_bit_size) (e ∷ kids) kids e o.fields p.fields
      (all_fields o (e ∷ kids)) refl g.fields refl

  members_met : all_members c p kids ≡ all_members c o (e ∷ kids)
  members_met = gathers DW_TAG_member (kept_of c) (e ∷ kids) kids e o.members.items p.members.items
      (all_members c o (e ∷ kids)) refl g.members refl

  targets_met : all_targets c p kids ≡ all_targets c o (e ∷ kids)
  targets_met =
      gathers DW_TAG_member (member_target c) (e ∷ kids) kids e o.targets.items p.targets.items
      (all_targets c o (e ∷ kids)) refl g.targets refl

  pub structure_met : structure_made c p kids ≡ structure_made c o (e ∷ kids)
  structure_met = made_is c p kids ∙ rw (
    fields_met,
    members_met,
    targets_met,
    g.at,
    g.is_union,
    g.name,
    g.size,
  ) (sym (made_is c o (e ∷ kids)))

  noted_met : (fields : Bool)
      → noted (own p fields) (refusals_by (member_refused c fields) (tagged DW_TAG_member kids))
      ≡ noted (own o fields)
      (refusals_by (member_refused c fields) (tagged DW_TAG_member (e ∷ kids)))
  noted_met fields = notes DW_TAG_member (member_refused c fields) (e ∷ kids) kids e (own o fields)
      (own p fields) _ refl (own_gathers c e o p g fields) refl

  pub structure_met_refused : structure_refused c p kids ≡ structure_refused c o (e ∷ kids)
  structure_met_refused =
      let fields = all_fields o (e ∷ kids) in
      let many = too_many o.at (length (all_members c o (e ∷ kids))) in
      refused_is c p kids
      ∙ rw (fields_met, members_met, g.at)
      (noted_append (own p fields)
      (refusals_by (member_refused c fields) (tagged DW_TAG_member kids)) many
      ∙ ap (λ (x : Option TypeFault). noted x many) (noted_met fields)
      ∙ sym (noted_append (own o fields) (refusals_by (member_refused c fields)
      (tagged DW_TAG_member (e ∷ kids))) many) ∙ sym (refused_is c o (e ∷ kids)))

-- a structure begins
near_near : (p : ℕ) (t : Bool) → nat_lt p (2 ^ 32) ≡ t
    → near true (if t then p else 0) ≡ near true p
near_near p true e = refl
near_near p false e = let far : nat_lt p (2 ^ 24) ≡ false =
    le-ltb p (2 ^ 24) (let h : 2 ^ 32 ≤ p = ltb-false p (2 ^ 32) e in omega arith) in rw far refl

part_same : (c : Scope) (fields : Bool) (m : Given)
    → part_from fields (kept_of c m) ≡ member_part c fields m
part_same c true m = rw (near_near (or_zero (position_of c m).value)
    (nat_lt (or_zero (position_of c m).value) (2 ^ 32)) refl) refl
part_same c false m = refl

parts_same : (c : Scope) (fields : Bool) (ms : List Given)
    → map (part_from fields) (map (kept_of c) ms) ≡ map (member_part c fields) ms
parts_same c fields [] = refl
parts_same c fields (m ∷ ms) = rw (part_same c fields m, parts_same c fields ms) refl

pub record IsFresh (c : Scope) (union : Bool) (e : Given) (found : Option TypeFault)
    (o : OpenStructure) : Type 0 where
  pub members : o.members.items ≡ []
  pub targets : o.targets.items ≡ []
  pub fields : o.fields ≡ false
  pub at : o.at ≡ e.at
  pub is_union : o.is_union ≡ union
  pub name : o.name ≡ name_in_full (name_attr c.sections e)
  pub size : o.size ≡ size_in (constant_attr DW_AT_byte_size e).value
  pub plain : o.fault_if_plain ≡ found
  pub packed : o.fault_if_packed ≡ found

fresh_made : (c : Scope) (union : Bool) (e : Given) (found : Option TypeFault) (o : OpenStructure)
    (kids : List Given) → IsFresh c union e found o
    → structure_made c o kids ≡ (defined_row c union e (tagged DW_TAG_member kids)).made
fresh_made c union e found o kids h =
    made_is c o kids ∙ rw (
      h.members,
      h.targets,
      h.fields,
      h.at,
      h.is_union,
      h.name,
      h.size,
      parts_same c (has_fields (tagged DW_TAG_member kids)) (tagged DW_TAG_member kids),
    ) refl

fresh_own : (o : OpenStructure) (found : Option TypeFault) (b : Bool) → o.fault_if_plain ≡ found
    → o.fault_if_packed ≡ found → own o b ≡ found
fresh_own o found true p q = q
fresh_own o found false p q = p

fresh_refused : (c : Scope) (union : Bool) (e : Given) (found : Option TypeFault)
    (o : OpenStructure) (kids : List Given) → IsFresh c union e found o
    → structure_refused c o kids ≡ noted found (refusals_by (member_refused c (has_fields
    (tagged DW_TAG_member kids))) (tagged DW_TAG_member kids)
    ++ too_many e.at (length (tagged DW_TAG_member kids)))
fresh_refused c union e found o kids h =
    refused_is c o kids ∙ rw (
      fresh_own o found (all_fields o kids) h.plain h.packed,
      h.members,
      h.fields,
      h.at,
      length-map (tagged DW_TAG_member kids) (kept_of c),
    ) refl

begun : (found : Option TypeFault) (f n s r x : List TypeFault) → found ≡ noted
    (noted (noted (noted None f) n) s) r → noted found x ≡ noted None (f ++ (n ++ (s ++ (r ++ x))))
begun found f n s r x e = rw e (simp noted_append)

row_defined : (c : Scope) (union : Bool) (e : Given) (kids : List Given)
    → is_set (flag_attr DW_AT_declaration e) ≡ false
    → ((structure_row c union e kids).made
    ≡ (defined_row c union e (tagged DW_TAG_member kids)).made)
    × ((structure_row c union e kids).refused
    ≡ (flag_attr DW_AT_declaration e).refused
    ++ (defined_row c union e (tagged DW_TAG_member kids)).refused)
row_defined c union e kids h = (rw h refl, rw h refl)

pub structure_comes : (c : Scope) (union : Bool) (e : Given) (declared found : Option TypeFault)
    (b : Box OpenStructure Global) → is_set (flag_attr DW_AT_declaration e) ≡ false
    → declared ≡ noted None (flag_attr DW_AT_declaration e).refused
    → found ≡ noted (noted (noted declared (name_attr c.sections e).refused)
    (constant_attr DW_AT_byte_size e).refused)
    (size_refusals e.at (constant_attr DW_AT_byte_size e).value)
    → IsFresh c union e found b.value → ComesTo c (Structure b) (structure_row c union e)
structure_comes c union e declared found b defined d f h =
    let o = b.value in
    record {
      made =
          λ kids. fresh_made c union e found o kids h ∙ sym (row_defined c union e kids defined).0;
      refused = λ kids.
          let x = refusals_by (member_refused c (has_fields (tagged DW_TAG_member kids)))
          (tagged DW_TAG_member kids)
          ++ too_many e.at (length (tagged DW_TAG_member kids)) in
          let s = constant_attr DW_AT_byte_size e in
          let all : found
          ≡ noted (noted (noted (noted None (flag_attr DW_AT_declaration e).refused)
          (name_attr c.sections e).refused) (constant_attr DW_AT_byte_size e).refused)
          (size_refusals e.at (constant_attr DW_AT_byte_size e).value) =
          f ∙ ap (λ (y : Option TypeFault). noted
          (noted (noted y (name_attr c.sections e).refused)
          (constant_attr DW_AT_byte_size e).refused)
          (size_refusals e.at (constant_attr DW_AT_byte_size e).value)) d in
          fresh_refused c union e found o kids h
          ∙ begun found (flag_attr DW_AT_declaration e).refused
          (name_attr c.sections e).refused s.refused
          (size_refusals e.at s.value) x all
          ∙ ap
          (λ (fs : List TypeFault). noted None fs) (sym (row_defined c union e kids defined).1);
    }
