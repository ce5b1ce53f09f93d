-- Types that refer to one other type (DWARF 5, sections 5.3 and 5.4): qualifiers and typedefs.
use Rattle.std.specs.Prelude.{ℕ, List, [], ◌∷◌, ◌++◌}
use Rattle.c_model.specs.declared.kinds.TheConstants.{BTF_KIND_TYPEDEF}
use Rattle.dwarf_forms.specs.Meanings.{Sections}
use Rattle.entry_tree.specs.Items.{Given}
use Rattle.type_attributes.specs.declared.fault.TypeFault.TheVariants.{MissingName}
use Rattle.type_attributes.specs.Faults.{refuse_if}
use Rattle.type_attributes.specs.Attributes.{name_attr, name_in_full, target_attr, target_of_type}
use Rattle.type_attributes.specs.Labels.{Row, type_of, plain_label, is_empty}

-- `_Atomic`, the name of the typedef that an atomic type is
abbrev pub atomic_name : List ℕ
atomic_name = 95 ∷ 65 ∷ 116 ∷ 111 ∷ 109 ∷ 105 ∷ 99 ∷ []

-- a kind, a name that does not come from the entry, and the type referred to
abbrev pub reference_row : ℕ → List ℕ → Sections → Given → Row
reference_row kind name c e =
    let target = target_attr c e in
    record {
      made = type_of e (plain_label kind name 0) (target_of_type e.at target ∷ []);
      refused = target.refused;
    }

-- a typedef has a name
abbrev pub typedef_row : Sections → Given → Row
typedef_row c e =
    let name = name_attr c e in
    let target = target_attr c e in
    record {
      made = type_of e (plain_label BTF_KIND_TYPEDEF (name_in_full name) 0)
          (target_of_type e.at target ∷ []);
      refused = name.refused
          ++ (refuse_if (is_empty (name_in_full name)) (MissingName e.at) ++ target.refused);
    }
