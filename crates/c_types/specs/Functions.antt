-- Subroutine types (DWARF 5, section 5.7): the type of the result, and the parameters.
use Rattle.std.specs.Prelude.{nat_lt, not, List, [], ◌∷◌, ◌++◌, length, map, Bool, false}
use Rattle.std.specs.Prelude.{if◌then◌else◌}
use Rattle.c_model.specs.declared.kinds.TheConstants.{BTF_KIND_FUNC_PROTO}
use Rattle.c_model.specs.declared.label.Label.{Label}
use Rattle.c_model.specs.declared.label.Part.{Part}
use Rattle.dwarf_forms.specs.Meanings.{Sections}
use Rattle.entry_tree.specs.Items.{Given}
use Rattle.type_attributes.specs.declared.source.Target.{Target}
use Rattle.type_attributes.specs.declared.source.Target.TheVariants.{Void}
use Rattle.type_attributes.specs.declared.fault.TypeFault.{TypeFault}
use Rattle.type_attributes.specs.declared.fault.TypeFault.TheVariants.{MissingType, TooMany}
use Rattle.type_attributes.specs.Faults.{refuse_if}
use Rattle.type_attributes.specs.Attributes.{has, name_attr, name_in_full, target_attr}
use Rattle.type_attributes.specs.Attributes.{target_of_type}
use Rattle.type_attributes.specs.Children.{tagged}
use Rattle.type_attributes.specs.Labels.{Row, type_of}
use Rattle.type_attributes.specs.Parts.{part_of, refusals_by, some_tagged, most}
use Rattle.dwarf_abbrev.specs.declared.constants.TheConstants.{DW_AT_type, DW_TAG_formal_parameter}
use Rattle.dwarf_abbrev.specs.declared.constants.TheConstants.{DW_TAG_unspecified_parameters}

abbrev pub parameter_part : Sections → Given → Part
parameter_part c p = part_of (name_in_full (name_attr c p)) 0

abbrev pub parameter_target : Sections → Given → Target
parameter_target c p = target_of_type p.at (target_attr c p)

-- a parameter has a type
abbrev pub parameter_refused : Sections → Given → List TypeFault
parameter_refused c p = (name_attr c p).refused
    ++ ((target_attr c p).refused ++ refuse_if (not (has DW_AT_type p)) (MissingType p.at))

-- an unspecified_parameters entry (0x18) makes one last parameter without name and of void
abbrev pub rest_part : Bool → List Part
rest_part variadic = if variadic then part_of [] 0 ∷ [] else []

abbrev pub rest_target : Bool → List Target
rest_target variadic = if variadic then Void ∷ [] else []

abbrev pub function_label : List Part → Label
function_label parts =
    record {
      kind = BTF_KIND_FUNC_PROTO;
      name = [];
      flag = false;
      size = 0;
      extra = 0;
      parts = parts;
    }

abbrev pub function_parts : Sections → List Given → List Part
function_parts c children =
    map (parameter_part c) (tagged DW_TAG_formal_parameter children)
    ++ rest_part (some_tagged DW_TAG_unspecified_parameters children)

abbrev pub function_targets : Sections → List Given → List Target
function_targets c children =
    map (parameter_target c) (tagged DW_TAG_formal_parameter children)
    ++ rest_target (some_tagged DW_TAG_unspecified_parameters children)

abbrev pub function_row : Sections → Given → List Given → Row
function_row c e children =
    let result = target_attr c e in
    let parts = function_parts c children in
    record {
      made = type_of e (function_label parts)
          (target_of_type e.at result ∷ function_targets c children);
      refused = result.refused
          ++ (refusals_by (parameter_refused c) (tagged DW_TAG_formal_parameter children)
          ++ refuse_if (nat_lt most (length parts)) (TooMany e.at (length parts)));
    }
