-- Attributes that a row asks for: what they say, and their refusals. Of two attributes of one name
-- the first counts.
use Rattle.std.specs.Prelude.{ℕ, ℤ, Bool, false, is_some, List, [], ◌∷◌, Option, None, Some, Result}
use Rattle.std.specs.Prelude.{Ok, Err, ◌≡◌}
use Rattle.std.specs.Option.{option_map}
use Rattle.dwarf_forms.specs.declared.fault.FormFault.{FormFault}
use Rattle.dwarf_forms.specs.Meanings.{Sections, name_in, constant_in, flag_in, target_in}
use Rattle.dwarf_forms.specs.Meanings.{offset_in}
use Rattle.entry_tree.specs.Items.{Given}
use Rattle.entry_tree.specs.Reads.{value_with}
use Rattle.type_attributes.specs.declared.fault.TypeFault.{TypeFault}
use Rattle.type_attributes.specs.declared.fault.TypeFault.TheVariants.{Form}
use Rattle.type_attributes.specs.Faults.{noted}
use Rattle.type_attributes.specs.declared.source.Target.{Target}
use Rattle.type_attributes.specs.declared.source.Target.TheVariants.{Void, Entry}
use Rattle.type_attributes.specs.declared.number.Number.{Number}
use Rattle.type_attributes.specs.Numbers.{number_from}
use Rattle.dwarf_abbrev.specs.declared.constants.TheConstants.{DW_AT_name, DW_AT_type}

-- an attribute of an entry as a row reads it: its value, where it is there and of the class that is
-- wanted, and else its refusal
pub record Attr (A : Type 0) : Type 0 where
  pub value : Option A
  pub refused : List TypeFault

abbrev pub attr_of : {A : Type 0} → ℕ → Option (Result A FormFault) → Attr A
attr_of at None = record { value = None; refused = [] }
attr_of at (Some (Ok x)) = record { value = Some x; refused = [] }
attr_of at (Some (Err f)) = record { value = None; refused = Form at f ∷ [] }

abbrev pub has : ℕ → Given → Bool
has attribute e = is_some (value_with attribute e.values)

-- a constant
abbrev pub constant_attr : ℕ → Given → Attr ℤ
constant_attr attribute e =
    attr_of e.at (option_map (constant_in attribute) (value_with attribute e.values))

-- its refusals come to those before: the first of all stays
abbrev pub NotesConstant : ℕ → Given → Option TypeFault → Option TypeFault → Type 0
NotesConstant attribute e old new = new ≡ noted old (constant_attr attribute e).refused

abbrev pub number_value : Attr ℤ → Option Number
number_value a = option_map number_from a.value

-- a flag; one that is absent or refused is not set
abbrev pub flag_attr : ℕ → Given → Attr Bool
flag_attr attribute e =
    attr_of e.at (option_map (flag_in attribute) (value_with attribute e.values))

abbrev pub or_false : Option Bool → Bool
or_false None = false
or_false (Some b) = b

abbrev pub is_set : Attr Bool → Bool
is_set a = or_false a.value

-- a text, which is read as a name
abbrev pub text_attr : ℕ → Sections → Given → Attr (List ℕ)
text_attr attribute c e =
    attr_of e.at (option_map (name_in c attribute) (value_with attribute e.values))

-- the name (0x03); an empty one counts as none
abbrev pub name_attr : Sections → Given → Attr (List ℕ)
name_attr c e = text_attr DW_AT_name c e

abbrev pub or_empty : Option (List ℕ) → List ℕ
or_empty None = []
or_empty (Some n) = n

abbrev pub name_in_full : Attr (List ℕ) → List ℕ
name_in_full a = or_empty a.value

-- the type (0x49) that is referred to
abbrev pub target_attr : Sections → Given → Attr ℕ
target_attr c e =
    attr_of e.at (option_map (target_in c DW_AT_type) (value_with DW_AT_type e.values))

abbrev pub target_from : ℕ → Option ℕ → Target
target_from from None = Void
target_from from (Some to) = Entry from to

abbrev pub target_of_type : ℕ → Attr ℕ → Target
target_of_type from a = target_from from a.value

-- the offset of a member
abbrev pub offset_attr : ℕ → Given → Attr (Option ℤ)
offset_attr attribute e =
    attr_of e.at (option_map (offset_in attribute) (value_with attribute e.values))
