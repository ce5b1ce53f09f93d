-- One walk over a unit: what is known of a function before its children come.
use Rattle.std.specs.Prelude.{List, [], ◌∷◌, ◌++◌, map, Option, None, Some, if◌then◌else◌}
use Rattle.std.specs.List.{zip}
use Rattle.dwarf_forms.specs.Meanings.{Sections}
use Rattle.entry_tree.specs.Items.{Given}
use Rattle.type_attributes.specs.declared.fault.TypeFault.{TypeFault}
use Rattle.type_attributes.specs.declared.source.SourceType.{SourceType}
use Rattle.type_attributes.specs.Attributes.{name_attr, name_in_full, flag_attr, is_set}
use Rattle.type_attributes.specs.Children.{children_of}
use Rattle.c_types.specs.Functions.{function_row}
use Rattle.func_entries.specs.declared.entries.FuncEntry.{FuncEntry}
use Rattle.func_entries.specs.declared.walking.Head.{Head}
use Rattle.func_entries.specs.Functions.{is_function, function_refused}
use Rattle.dwarf_abbrev.specs.declared.constants.TheConstants.{DW_AT_declaration, DW_AT_external}

-- what an entry says of itself, where it is a function, and its own refusals
abbrev pub head_at : Sections → Given → Option Head
head_at c e = if is_function c e then Some (record {
  name = name_in_full (name_attr c e);
  external = is_set (flag_attr DW_AT_external e);
}) else None

abbrev pub head_refused : Sections → Given → List TypeFault
head_refused c e = if is_function c e then (name_attr c e).refused
    ++ ((flag_attr DW_AT_declaration e).refused ++ (flag_attr DW_AT_external e).refused) else []

abbrev pub head_listed : Option Head → List Head
head_listed None = []
head_listed (Some h) = h ∷ []

-- its prototype, and all its refusals
abbrev pub prototypes_at : Sections → Given → List Given → List SourceType
prototypes_at c e after =
    if is_function c e then (function_row c e (children_of e.depth after)).made ∷ [] else []

abbrev pub refused_at : Sections → Given → List Given → List TypeFault
refused_at c e after = if is_function c e then function_refused c e after else []

-- those of some entries
abbrev pub heads_of : Sections → List Given → List Head
heads_of c [] = []
heads_of c (e ∷ es) = head_listed (head_at c e) ++ heads_of c es

abbrev pub prototypes_of : Sections → List Given → List SourceType
prototypes_of c [] = []
prototypes_of c (e ∷ es) = prototypes_at c e es ++ prototypes_of c es

-- a function is both
abbrev pub entry_of : Head × SourceType → FuncEntry
entry_of p = record { name = p.0.name; external = p.0.external; proto = p.1 }

abbrev pub paired : List Head → List SourceType → List FuncEntry
paired heads types = map entry_of (zip heads types)
