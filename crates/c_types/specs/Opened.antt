-- What the types that are open come to, given the children that are still to come.
use Rattle.std.specs.Prelude.{ℕ, ◌≡◌, ◌+◌, ◌*◌, ◌^◌, ◌||◌, ◌&&◌, ◌==◌, nat_lt, not, Bool, true}
use Rattle.std.specs.Prelude.{false, List, [], ◌∷◌, ◌++◌, length, map, Option, None, if◌then◌else◌}
use Rattle.c_model.specs.declared.label.Part.{Part}
use Rattle.dwarf_forms.specs.Meanings.{Sections}
use Rattle.entry_tree.specs.Items.{Given}
use Rattle.c_types.specs.declared.arrays.Lengths.{Lengths}
use Rattle.c_types.specs.declared.open.Member.{Member}
use Rattle.c_types.specs.declared.open.OpenStructure.{OpenStructure}
use Rattle.c_types.specs.declared.open.OpenFunction.{OpenFunction}
use Rattle.c_types.specs.declared.open.OpenEnumeration.{OpenEnumeration}
use Rattle.c_types.specs.declared.open.OpenArray.{OpenArray}
use Rattle.c_types.specs.declared.open.OpenPointer.{OpenPointer}
use Rattle.c_types.specs.declared.open.OpenType.{OpenType}
use Rattle.c_types.specs.declared.open.OpenType.TheVariants.{Structure, Function, Enumeration}
use Rattle.c_types.specs.declared.open.OpenType.TheVariants.{Array, EmptyFunction}
use Rattle.c_types.specs.declared.open.OpenType.TheVariants.{Pointer}
use Rattle.type_attributes.specs.declared.source.SourceType.{SourceType}
use Rattle.type_attributes.specs.declared.source.Target.{Target}
use Rattle.type_attributes.specs.declared.source.Target.TheVariants.{Index, Void}
use Rattle.type_attributes.specs.declared.fault.TypeFault.{TypeFault}
use Rattle.type_attributes.specs.declared.fault.TypeFault.TheVariants.{TooMany, ArrayLength}
use Rattle.type_attributes.specs.Scopes.{Scope}
use Rattle.type_attributes.specs.Faults.{noted, refuse_if}
use Rattle.type_attributes.specs.Attributes.{has, name_attr, name_in_full, constant_attr}
use Rattle.type_attributes.specs.Children.{tagged}
use Rattle.type_attributes.specs.Labels.{Row, plain_label, is_empty}
use Rattle.type_attributes.specs.Parts.{part_of, refusals_by, some_is, some_tagged, most}
use Rattle.type_attributes.specs.Positions.{position_of}
use Rattle.c_types.specs.Structures.{or_zero, bits_in, near, member_target, member_refused}
use Rattle.c_types.specs.Structures.{has_fields, structure_label}
use Rattle.c_types.specs.Functions.{parameter_part, parameter_target, parameter_refused, rest_part}
use Rattle.c_types.specs.Functions.{rest_target, function_label}
use Rattle.c_types.specs.Enumerations.{is_negative, enumerator_part, enumerator_refused}
use Rattle.c_types.specs.Enumerations.{enumeration_label}
use Rattle.c_types.specs.Arrays.{lengths_of, array_label}
use Rattle.c_types.specs.Lengths.{extended, is_too_long, elements_from}
use Rattle.c_types.specs.Pointers.{link_to}
use Rattle.c_types.specs.Taking.{made_if, refused_if}
use Rattle.dwarf_abbrev.specs.declared.constants.TheConstants.{DW_AT_bit_size, DW_TAG_enumerator}
use Rattle.dwarf_abbrev.specs.declared.constants.TheConstants.{DW_TAG_formal_parameter}
use Rattle.dwarf_abbrev.specs.declared.constants.TheConstants.{DW_TAG_member}
use Rattle.dwarf_abbrev.specs.declared.constants.TheConstants.{DW_TAG_unspecified_parameters}

abbrev pub too_many : ℕ → ℕ → List TypeFault
too_many at count = refuse_if (nat_lt most count) (TooMany at count)

-- what is kept of a member, and the part that it is once its structure is complete
abbrev pub kept_of : Scope → Given → Member
kept_of s m = record {
  name = name_in_full (name_attr s.sections m);
  bits = bits_in
      (constant_attr DW_AT_bit_size m).value;
  near = near false (or_zero (position_of s m).value);
}

abbrev pub part_from : Bool → Member → Part
part_from fields k = part_of k.name (if fields then k.bits * 2 ^ 24 + near true k.near else k.near)

-- of an open structure: all members, their types, and whether one is a bit field
abbrev pub all_members : Scope → OpenStructure → List Given → List Member
all_members s o kids = o.members.items ++ map (kept_of s) (tagged DW_TAG_member kids)

abbrev pub all_targets : Scope → OpenStructure → List Given → List Target
all_targets s o kids = o.targets.items ++ map (member_target s) (tagged DW_TAG_member kids)

abbrev pub all_fields : OpenStructure → List Given → Bool
all_fields o kids = o.fields || has_fields (tagged DW_TAG_member kids)

-- the type that it comes to
abbrev pub structure_by : OpenStructure → Bool → List Member → List Target → SourceType
structure_by o fields members targets = record {
  at = o.at;
  label = structure_label o.is_union
      o.name o.size fields (map (part_from fields) members);
  targets = targets;
}

unfoldable pub structure_made : Scope → OpenStructure → List Given → SourceType
structure_made s o kids =
    structure_by o (all_fields o kids) (all_members s o kids) (all_targets s o kids)

-- and the first refusal of its row
abbrev pub own : OpenStructure → Bool → Option TypeFault
own o fields = if fields then o.fault_if_packed else o.fault_if_plain

unfoldable pub structure_refused : Scope → OpenStructure → List Given → Option TypeFault
structure_refused s o kids =
    noted (own o (all_fields o kids)) (refusals_by (member_refused s (all_fields o kids))
    (tagged DW_TAG_member kids) ++ too_many o.at (length (all_members s o kids)))

-- of an open subroutine type: the parameters, their types behind that of the result, and whether
-- more may follow
abbrev pub all_parameters : Sections → OpenFunction → List Given → List Part
all_parameters c o kids =
    o.parts.items ++ map (parameter_part c) (tagged DW_TAG_formal_parameter kids)

abbrev pub all_results : Sections → OpenFunction → List Given → List Target
all_results c o kids =
    o.targets.items ++ map (parameter_target c) (tagged DW_TAG_formal_parameter kids)

abbrev pub all_variadic : OpenFunction → List Given → Bool
all_variadic o kids = o.variadic || some_tagged DW_TAG_unspecified_parameters kids

abbrev pub function_by : ℕ → Bool → List Part → List Target → SourceType
function_by at variadic parts targets = record {
  at = at;
  label = function_label
      (parts ++ rest_part variadic);
  targets = targets ++ rest_target variadic;
}

unfoldable pub function_made : Sections → OpenFunction → List Given → SourceType
function_made c o kids =
    function_by o.at (all_variadic o kids) (all_parameters c o kids) (all_results c o kids)

unfoldable pub function_refused : Sections → OpenFunction → List Given → Option TypeFault
function_refused c o kids =
    noted o.least (refusals_by (parameter_refused c) (tagged DW_TAG_formal_parameter kids)
    ++ too_many o.at (length (all_parameters c o kids ++ rest_part (all_variadic o kids))))

-- of a subroutine type of `void` that has gathered nothing so far
abbrev pub empty_parts : Sections → List Given → List Part
empty_parts c kids = map (parameter_part c) (tagged DW_TAG_formal_parameter kids)

unfoldable pub empty_made : Sections → ℕ → List Given → SourceType
empty_made c at kids =
    function_by at (some_tagged DW_TAG_unspecified_parameters kids) (empty_parts c kids)
    (Void ∷ map (parameter_target c) (tagged DW_TAG_formal_parameter kids))

unfoldable pub empty_refused : Sections → ℕ → List Given → Option TypeFault
empty_refused c at kids =
    noted None (refusals_by (parameter_refused c) (tagged DW_TAG_formal_parameter kids)
    ++ too_many at (length
    (empty_parts c kids ++ rest_part (some_tagged DW_TAG_unspecified_parameters kids))))

-- a subroutine type without parameters so far
pub record IsNewFunction (at : ℕ) (target : Target) (least : Option TypeFault) (o : OpenFunction)
    : Type 0 where
  pub at_is : o.at ≡ at
  pub parts : o.parts.items ≡ []
  pub targets : o.targets.items ≡ target ∷ []
  pub variadic : o.variadic ≡ false
  pub least_is : o.least ≡ least

-- of an open enumeration: whether there is an enumerator, whether one is negative, and all of them
abbrev pub all_some : OpenEnumeration → List Given → Bool
all_some o kids = o.has_some || some_tagged DW_TAG_enumerator kids

abbrev pub all_negative : OpenEnumeration → List Given → Bool
all_negative o kids = o.has_negative || some_is is_negative (tagged DW_TAG_enumerator kids)

abbrev pub all_enumerators : Sections → OpenEnumeration → List Given → List Part
all_enumerators c o kids =
    o.parts.items ++ map (enumerator_part c o.wide) (tagged DW_TAG_enumerator kids)

-- it has a name and no enumerator
abbrev pub ends_bare : OpenEnumeration → List Given → Bool
ends_bare o kids = not (all_some o kids) && not (is_empty o.name)

abbrev pub enumeration_by : OpenEnumeration → Bool → Bool → List Part → SourceType
enumeration_by o bare negative parts =
    record {
      at = o.at;
      label = if bare then enumeration_label false o.name false 4 []
          else enumeration_label o.wide o.name negative o.size parts;
      targets = [];
    }

unfoldable pub enumeration_made : Sections → OpenEnumeration → List Given → SourceType
enumeration_made c o kids =
    enumeration_by o (ends_bare o kids) (all_negative o kids) (all_enumerators c o kids)

abbrev pub own_sign : OpenEnumeration → Bool → Option TypeFault
own_sign o negative = if negative then o.fault_if_signed else o.fault_if_unsigned

abbrev pub enumerated : Sections → OpenEnumeration → Bool → ℕ → List Given → Option TypeFault
enumerated c o negative count kids = noted (own_sign o negative)
    (refusals_by (enumerator_refused c o.wide negative) (tagged DW_TAG_enumerator kids)
    ++ too_many o.at count)

unfoldable pub enumeration_refused : Sections → OpenEnumeration → List Given → Option TypeFault
enumeration_refused c o kids = if ends_bare o kids then o.fault_if_bare
    else enumerated c o (all_negative o kids) (length (all_enumerators c o kids)) kids

-- of an open array: the lengths of all dimensions
abbrev pub all_lengths : OpenArray → List Given → Lengths
all_lengths o kids = extended o.lengths (lengths_of kids)

abbrev pub array_by : OpenArray → Lengths → SourceType
array_by o lengths = record {
  at = o.at;
  label = array_label (elements_from lengths);
  targets = o.target ∷ Index ∷ [];
}

unfoldable pub array_made : OpenArray → List Given → SourceType
array_made o kids = array_by o (all_lengths o kids)

unfoldable pub array_refused : OpenArray → List Given → Option TypeFault
array_refused o kids =
    noted o.least (refuse_if (is_too_long (all_lengths o kids)) (ArrayLength o.at))

-- of an open pointer: the type of its last tag entry so far, or of the pointer itself, which the
-- next one may follow
abbrev pub pointer_by : OpenPointer → Target → SourceType
pointer_by o target =
    record { at = o.at; label = plain_label o.kind o.name 0; targets = target ∷ [] }

unfoldable pub pointer_made : Sections → OpenPointer → List Given → SourceType
pointer_made c o kids = pointer_by o (link_to c o.at o.own kids)

-- of what is kept of any open type
abbrev pub kept_made : Scope → OpenType → List Given → SourceType
kept_made s (Structure o) kids = structure_made s o.value kids
kept_made s (Function o) kids = function_made s.sections o.value kids
kept_made s (EmptyFunction at) kids = empty_made s.sections at kids
kept_made s (Enumeration o) kids = enumeration_made s.sections o.value kids
kept_made s (Array o) kids = array_made o.value kids
kept_made s (Pointer o) kids = pointer_made s.sections o kids

abbrev pub kept_refused : Scope → OpenType → List Given → Option TypeFault
kept_refused s (Structure o) kids = structure_refused s o.value kids
kept_refused s (Function o) kids = function_refused s.sections o.value kids
kept_refused s (EmptyFunction at) kids = empty_refused s.sections at kids
kept_refused s (Enumeration o) kids = enumeration_refused s.sections o.value kids
kept_refused s (Array o) kids = array_refused o.value kids
kept_refused s (Pointer o) kids = None

-- it comes to a row, whichever children come
pub record ComesTo (s : Scope) (k : OpenType) (row : List Given → Row) : Type 0 where
  pub made : (kids : List Given) → kept_made s k kids ≡ (row kids).made
  pub refused : (kids : List Given) → kept_refused s k kids ≡ noted None (row kids).refused

-- before and after a child was met
pub record GathersMember (s : Scope) (e : Given) (old new : OpenStructure) : Type 0 where
  pub members : new.members.items ≡ old.members.items ++ made_if DW_TAG_member (kept_of s) e
  pub targets : new.targets.items ≡ old.targets.items ++ made_if DW_TAG_member (member_target s) e
  pub fields : new.fields ≡ (old.fields || (e.tag == DW_TAG_member && has DW_AT_bit_size e))
  pub plain : new.fault_if_plain
      ≡ noted old.fault_if_plain (refused_if DW_TAG_member (member_refused s false) e)
  pub packed : new.fault_if_packed
      ≡ noted old.fault_if_packed (refused_if DW_TAG_member (member_refused s true) e)
  pub at : new.at ≡ old.at
  pub is_union : new.is_union ≡ old.is_union
  pub name : new.name ≡ old.name
  pub size : new.size ≡ old.size

pub record GathersParameter (c : Sections) (e : Given) (old new : OpenFunction) : Type 0 where
  pub parts : new.parts.items
      ≡ old.parts.items ++ made_if DW_TAG_formal_parameter (parameter_part c) e
  pub targets : new.targets.items
      ≡ old.targets.items ++ made_if DW_TAG_formal_parameter (parameter_target c) e
  pub variadic : new.variadic ≡ (old.variadic || e.tag == DW_TAG_unspecified_parameters)
  pub least : new.least
      ≡ noted old.least (refused_if DW_TAG_formal_parameter (parameter_refused c) e)
  pub at : new.at ≡ old.at

pub record GathersEnumerator (c : Sections) (e : Given) (old new : OpenEnumeration) : Type 0 where
  pub has_some : new.has_some ≡ (old.has_some || e.tag == DW_TAG_enumerator)
  pub has_negative : new.has_negative
      ≡ (old.has_negative || (e.tag == DW_TAG_enumerator && is_negative e))
  pub parts : new.parts.items
      ≡ old.parts.items ++ made_if DW_TAG_enumerator (enumerator_part c old.wide) e
  pub unsigned : new.fault_if_unsigned
      ≡ noted old.fault_if_unsigned
      (refused_if DW_TAG_enumerator (enumerator_refused c old.wide false) e)
  pub signed : new.fault_if_signed
      ≡ noted old.fault_if_signed
      (refused_if DW_TAG_enumerator (enumerator_refused c old.wide true) e)
  pub bare : new.fault_if_bare ≡ old.fault_if_bare
  pub at : new.at ≡ old.at
  pub name : new.name ≡ old.name
  pub size : new.size ≡ old.size
  pub wide : new.wide ≡ old.wide
