-- The types of a unit stand where their entries do.
use Rattle.std.proofs.Common.{◌≡◌, ℕ, ◌<◌, ◌≤◌, ◌==◌, Bool, true, false, List, [], ◌∷◌, ◌++◌, All}
use Rattle.std.proofs.Common.{IfSome, Option, None, Some, Ok, if◌then◌else◌, refl, sym, subst}
use Rattle.std.proofs.lemmas.List.Elements.{All-nil, All-cons, All-head, All-tail, All-append}
use Rattle.dwarf_abbrev.specs.Declarations.{Declaration}
use Rattle.dwarf_forms.specs.Meanings.{Sections}
use Rattle.entry_tree.specs.declared.fault.WalkFault.{WalkFault}
use Rattle.entry_tree.specs.Items.{Given}
use Rattle.entry_tree.specs.Rising.{Rises, StandIn}
use Rattle.entry_tree.specs.Walks.{entries_of}
use Rattle.entry_tree.proofs.Rising.{entries_placed}
use Rattle.type_attributes.specs.declared.source.SourceType.{SourceType}
use Rattle.type_attributes.specs.declared.source.Target.{Target}
use Rattle.type_attributes.specs.declared.source.UnitTypes.{UnitTypes}
use Rattle.type_attributes.specs.Scopes.{Scope, scope_of}
use Rattle.type_attributes.specs.Faults.{least}
use Rattle.type_attributes.specs.Children.{children_of}
use Rattle.type_attributes.specs.Labels.{Row}
use Rattle.type_attributes.specs.Parts.{some_tagged}
use Rattle.type_attributes.specs.BaseTypes.{base_row, unspecified_row}
use Rattle.type_attributes.specs.References.{atomic_name, reference_row, typedef_row}
use Rattle.c_types.specs.Pointers.{pointer_row, pointed_in, is_tag_entry, tag_made}
use Rattle.c_types.specs.Arrays.{array_row}
use Rattle.c_types.specs.Functions.{function_row}
use Rattle.c_types.specs.Structures.{structure_row}
use Rattle.c_types.specs.Enumerations.{enumeration_row}
use Rattle.c_types.specs.Types.{plain_row_of, row_of, made_in, listed, made_of, types_of}
use Rattle.c_types.specs.Types.{refusals_of, or_least, unit_types, types_in}
use Rattle.type_attributes.specs.Ordered.{AreInOrder, LieIn}
use Rattle.c_types.specs.Laws.{TypesRise}
use Rattle.c_types.proofs.Accepted.{walked, accepted, in_unit}
use Rattle.dwarf_abbrev.specs.declared.constants.TheConstants.{DW_TAG_array_type}
use Rattle.dwarf_abbrev.specs.declared.constants.TheConstants.{DW_TAG_atomic_type, DW_TAG_base_type}
use Rattle.dwarf_abbrev.specs.declared.constants.TheConstants.{DW_TAG_const_type}
use Rattle.dwarf_abbrev.specs.declared.constants.TheConstants.{DW_TAG_enumeration_type}
use Rattle.dwarf_abbrev.specs.declared.constants.TheConstants.{DW_TAG_pointer_type}
use Rattle.dwarf_abbrev.specs.declared.constants.TheConstants.{DW_TAG_restrict_type}
use Rattle.dwarf_abbrev.specs.declared.constants.TheConstants.{DW_TAG_structure_type}
use Rattle.dwarf_abbrev.specs.declared.constants.TheConstants.{DW_TAG_subroutine_type}
use Rattle.dwarf_abbrev.specs.declared.constants.TheConstants.{DW_TAG_typedef, DW_TAG_union_type}
use Rattle.dwarf_abbrev.specs.declared.constants.TheConstants.{DW_TAG_unspecified_type}
use Rattle.dwarf_abbrev.specs.declared.constants.TheConstants.{DW_TAG_volatile_type}

-- the type of a row, if there is one, stands at a place
abbrev StandsAt : ℕ → Option Row → Type 0
StandsAt at o = IfSome o (λ (r : Row). r.made.at ≡ at)

if_tag : (at : ℕ) (t : Bool) (r : Row) (o : Option Row) → r.made.at ≡ at → StandsAt at o
    → StandsAt at (if t then Some r else o)
if_tag at true r o h k = h
if_tag at false r o h k = k

one_of : (at : ℕ) (t : Bool) (r s : Row) → r.made.at ≡ at → s.made.at ≡ at
    → (if t then r else s).made.at ≡ at
one_of at true r s h k = h
one_of at false r s h k = k

plain_stands : (c : Sections) (e : Given) → StandsAt e.at (plain_row_of c e)
plain_stands c e =
    if_tag e.at (e.tag == DW_TAG_typedef) (typedef_row c e) _ refl
    (if_tag e.at (e.tag == DW_TAG_base_type) (base_row c e) _ refl
    (if_tag e.at (e.tag == DW_TAG_const_type) (reference_row 10 [] c e) _ refl
    (if_tag e.at (e.tag == DW_TAG_volatile_type) (reference_row 9 [] c e) _ refl
    (if_tag e.at (e.tag == DW_TAG_restrict_type) (reference_row 11 [] c e) _ refl
    (if_tag e.at (e.tag == DW_TAG_unspecified_type) (unspecified_row c e) _ refl
    (if_tag e.at (e.tag == DW_TAG_atomic_type) (reference_row 8 atomic_name c e) None refl tt))))))

row_stands : (c : Scope) (e : Given) (after : List Given) → StandsAt e.at (row_of c e after)
row_stands c e after =
    let children = children_of e.depth after in
    if_tag e.at (e.tag == DW_TAG_array_type) (array_row c.sections e children) _ refl
    (if_tag e.at (e.tag == DW_TAG_enumeration_type) (enumeration_row c.sections e children) _
    (one_of e.at _ _ _ refl refl)
    (if_tag e.at (e.tag == DW_TAG_pointer_type) (pointer_row c.sections e children) _ refl
    (if_tag e.at (e.tag == DW_TAG_structure_type) (structure_row c false e children) _
    (one_of e.at _ _ _ refl refl)
    (if_tag e.at (e.tag == DW_TAG_subroutine_type) (function_row c.sections e children) _ refl
    (if_tag e.at (e.tag == DW_TAG_union_type) (structure_row c true e children)
    (plain_row_of c.sections e)
    (one_of e.at _ _ _ refl refl) (plain_stands c.sections e))))))

-- the type that an entry is, if it is one, stands at the entry
abbrev pub TypeStandsAt : ℕ → Option SourceType → Type 0
TypeStandsAt at o = IfSome o (λ (t : SourceType). t.at ≡ at)

row_type_stands : (at : ℕ) (o : Option Row) → StandsAt at o → TypeStandsAt at (made_in o)
row_type_stands at None h = tt
row_type_stands at (Some r) h = h

tag_stands : (c : Sections) (pointed : Option Target) (e : Given) (after : List Given)
    → TypeStandsAt e.at (tag_made c pointed e after)
tag_stands c None e after = tt
tag_stands c (Some own) e after = refl

either_stands : (at : ℕ) (t : Bool) (x y : Option SourceType) → TypeStandsAt at x
    → TypeStandsAt at y → TypeStandsAt at (if t then x else y)
either_stands at true x y h k = h
either_stands at false x y h k = k

pub made_stands : (c : Scope) (pointed : Option Target) (e : Given) (after : List Given)
    → TypeStandsAt e.at (made_of c pointed e after)
made_stands c pointed e after = either_stands e.at (is_tag_entry c.sections pointed e) (tag_made
    c.sections pointed e after) (made_in (row_of c e after)) (tag_stands c.sections pointed e after)
    (row_type_stands e.at (row_of c e after) (row_stands c e after))

-- what holds of the places of all entries holds of those of the types
one_stands : (P : ℕ → Type 0) (at : ℕ) (o : Option SourceType) → TypeStandsAt at o → P at
    → All (λ (t : SourceType). P t.at) (listed o)
one_stands P at None h p = All-nil (λ (t : SourceType). P t.at)
one_stands P at (Some s) h p = All-cons
    (λ (t : SourceType). P t.at) s [] (subst P (sym h) p) (All-nil (λ (t : SourceType). P t.at))

all_stand : (P : ℕ → Type 0) (c : Scope) (earlier es : List Given) → All (λ (e : Given). P e.at) es
    → All (λ (t : SourceType). P t.at) (types_of c earlier es)
all_stand P c earlier [] h = All-nil (λ (t : SourceType). P t.at)
all_stand P c earlier (e ∷ es) h =
    let pointed = pointed_in c.sections earlier e.depth in
    All-append
    (λ (t : SourceType). P t.at) (listed (made_of c pointed e es)) (types_of c (e ∷ earlier) es)
    (one_stands P e.at (made_of c pointed e es) (made_stands c pointed e es)
    (All-head (λ (g : Given). P g.at) e es h))
    (all_stand P c (e ∷ earlier) es (All-tail (λ (g : Given). P g.at) e es h))

first_stands : (at : ℕ) (o : Option SourceType) (ts : List SourceType) → TypeStandsAt at o
    → All (λ (t : SourceType). at < t.at) ts → AreInOrder ts → AreInOrder (listed o ++ ts)
first_stands at None ts h all rest = rest
first_stands at (Some s) ts h all rest =
    (subst (λ (n : ℕ). All (λ (t : SourceType). n < t.at) ts) (sym h) all, rest)

all_in_order : (c : Scope) (earlier es : List Given) → Rises es → AreInOrder (types_of c earlier es)
all_in_order c earlier [] h = tt
all_in_order c earlier (e ∷ es) h =
    let pointed = pointed_in c.sections earlier e.depth in
    first_stands e.at (made_of c pointed e es) (types_of c (e ∷ earlier) es)
    (made_stands c pointed e es) (all_stand (λ (n : ℕ). e.at < n) c (e ∷ earlier) es h.0)
    (all_in_order c (e ∷ earlier) es h.1)

walk_rises : (c : Scope) (ending : Option WalkFault) (from end : ℕ) (t : UnitTypes)
    → Rises c.entries → StandIn from end c.entries → types_in c ending ≡ Ok t
    → AreInOrder t.types × LieIn from end t.types
walk_rises c ending from end t rise stand e =
    let u : UnitTypes =
    unit_types (some_tagged DW_TAG_array_type c.entries) (types_of c [] c.entries) in
    let a = accepted u t (least (refusals_of c [] c.entries))
    (walked ending (or_least u (least (refusals_of c [] c.entries))) t e) in
    subst (λ (v : UnitTypes). AreInOrder v.types × LieIn from end v.types) a.1 (
      all_in_order c
          [] c.entries rise,
      all_stand (λ (n : ℕ). (from ≤ n) × (n < end)) c [] c.entries stand,
    )

pub types_in_order : TypesRise
types_in_order file unit =
    in_unit file unit (λ (t : UnitTypes). AreInOrder t.types × LieIn unit.first unit.end t.types)
    (tt, All-nil (λ (t : SourceType). (unit.first ≤ t.at) × (t.at < unit.end)))
    (λ (declarations : List Declaration) (base : ℕ) (t : UnitTypes).
    let placed = entries_placed file unit declarations in
    walk_rises (scope_of file unit declarations base)
    (entries_of file unit declarations).ending unit.first unit.end t placed.0 placed.1)
