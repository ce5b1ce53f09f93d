-- The functions of a unit (DWARF 5, section 3.3): subprogram entries at any depth that have a name
-- and are no mere declarations.
use Rattle.std.specs.Prelude.{◌==◌, ◌&&◌, ◌||◌, not, Bool, true, false, ℕ, List, [], ◌∷◌, ◌++◌}
use Rattle.std.specs.Prelude.{if◌then◌else◌}
use Rattle.dwarf_forms.specs.Meanings.{Sections}
use Rattle.entry_tree.specs.Items.{Given}
use Rattle.type_attributes.specs.declared.fault.TypeFault.{TypeFault}
use Rattle.type_attributes.specs.Attributes.{Attr, name_attr, name_in_full, flag_attr, is_set}
use Rattle.type_attributes.specs.Children.{children_of}
use Rattle.c_types.specs.Functions.{function_row}
use Rattle.type_attributes.specs.Labels.{is_empty}
use Rattle.func_entries.specs.declared.entries.FuncEntry.{FuncEntry}
use Rattle.dwarf_abbrev.specs.declared.constants.TheConstants.{DW_AT_declaration, DW_AT_external}
use Rattle.dwarf_abbrev.specs.declared.constants.TheConstants.{DW_TAG_subprogram}

abbrev pub some_refused : List TypeFault → Bool
some_refused [] = false
some_refused (f ∷ fs) = true

-- a name that is not empty; one that is refused counts as such
abbrev pub has_name : Attr (List ℕ) → Bool
has_name name = some_refused name.refused || not (is_empty (name_in_full name))

-- a subprogram (0x2e) with a name and without a true declaration (0x3c); a declaration that is
-- refused counts as one that is not true
abbrev pub is_function : Sections → Given → Bool
is_function c e = e.tag == DW_TAG_subprogram
    && (has_name (name_attr c e) && not (is_set (flag_attr DW_AT_declaration e)))

-- its name, whether it is external (0x3f), and its prototype: the subroutine type of its own type
-- and parameters
abbrev pub function_at : Sections → Given → List Given → FuncEntry
function_at c e after =
    record {
      name = name_in_full (name_attr c e);
      external = is_set (flag_attr DW_AT_external e);
      proto = (function_row c e (children_of e.depth after)).made;
    }

abbrev pub function_refused : Sections → Given → List Given → List TypeFault
function_refused c e after =
    (name_attr c e).refused ++ ((flag_attr DW_AT_declaration e).refused
    ++ ((flag_attr DW_AT_external e).refused
    ++ (function_row c e (children_of e.depth after)).refused))

-- the functions among some entries, in order, and all their refusals
abbrev pub functions_of : Sections → List Given → List FuncEntry
functions_of c [] = []
functions_of c (e ∷ es) =
    if is_function c e then function_at c e es ∷ functions_of c es else functions_of c es

abbrev pub refusals_of : Sections → List Given → List TypeFault
refusals_of c [] = []
refusals_of c (e ∷ es) =
    if is_function c e then function_refused c e es ++ refusals_of c es else refusals_of c es
