-- An open subroutine type comes to its row, one child after the other.
use Rattle.std.proofs.Common.{◌≡◌, ◌==◌, ◌||◌, Bool, false, ℕ, List, [], ◌∷◌, ◌++◌, length, map}
use Rattle.std.proofs.Common.{Option, None, if◌then◌else◌, refl, sym, ap, ◌∙◌}
use Rattle.std.specs.declared.alloc.Global.{Global}
use Rattle.std.specs.declared.boxed.Box.{Box}
use Rattle.std.proofs.lemmas.List.{append-nil}
use Rattle.std.proofs.Math.Bool.{or-false}
use Rattle.dwarf_forms.specs.Meanings.{Sections}
use Rattle.entry_tree.specs.Items.{Given}
use Rattle.c_types.specs.declared.open.OpenFunction.{OpenFunction}
use Rattle.c_types.specs.declared.open.OpenType.TheVariants.{Function, EmptyFunction}
use Rattle.type_attributes.specs.declared.source.Target.TheVariants.{Void}
use Rattle.type_attributes.specs.declared.fault.TypeFault.{TypeFault}
use Rattle.type_attributes.specs.Scopes.{Scope}
use Rattle.type_attributes.specs.Faults.{noted}
use Rattle.type_attributes.specs.Attributes.{target_attr, target_of_type}
use Rattle.type_attributes.specs.Children.{tagged}
use Rattle.type_attributes.specs.Parts.{refusals_by, some_tagged}
use Rattle.c_types.specs.Functions.{parameter_part, parameter_target, parameter_refused, rest_part}
use Rattle.c_types.specs.Functions.{function_row}
use Rattle.c_types.specs.Opened.{empty_parts, empty_made, empty_refused, IsNewFunction}
use Rattle.c_types.specs.Opened.{all_parameters, all_results, all_variadic, function_by}
use Rattle.c_types.specs.Opened.{function_made, too_many, function_refused, GathersParameter}
use Rattle.c_types.specs.Opened.{ComesTo}
use Rattle.type_attributes.proofs.Noting.{noted_append}
use Rattle.c_types.proofs.Gathering.{gathers, notes, tests}
use Rattle.dwarf_abbrev.specs.declared.constants.TheConstants.{DW_TAG_formal_parameter}
use Rattle.dwarf_abbrev.specs.declared.constants.TheConstants.{DW_TAG_unspecified_parameters}

made_is : (c : Sections) (o : OpenFunction) (kids : List Given) → function_made c o kids
    ≡ function_by o.at (all_variadic o kids) (all_parameters c o kids) (all_results c o kids)
unfolding function_made
made_is c o kids = refl

refused_is : (c : Sections) (o : OpenFunction) (kids : List Given)
    → function_refused c o kids
    ≡ noted o.least (refusals_by (parameter_refused c) (tagged DW_TAG_formal_parameter kids)
    ++ too_many o.at (length (all_parameters c o kids ++ rest_part (all_variadic o kids))))
unfolding function_refused
refused_is c o kids = refl

-- without children to come
pub made_closed : (c : Sections) (o : OpenFunction)
    → function_made c o [] ≡ function_by o.at o.variadic o.parts.items o.targets.items
made_closed c o =
    let v : all_variadic o [] ≡ o.variadic = or-false o.variadic in
    let p : all_parameters c o [] ≡ o.parts.items = append-nil o.parts.items in
    let t : all_results c o [] ≡ o.targets.items = append-nil o.targets.items in
    made_is c o [] ∙ rw (v, p, t) refl

pub refused_closed : (c : Sections) (o : OpenFunction) → function_refused c o []
    ≡ noted o.least (too_many o.at (length (o.parts.items ++ rest_part o.variadic)))
refused_closed c o =
    let v : all_variadic o [] ≡ o.variadic = or-false o.variadic in
    let p : all_parameters c o [] ≡ o.parts.items = append-nil o.parts.items in
    refused_is c o [] ∙ rw (v, p) refl

-- a child is met
module _ (c : Sections) (e : Given) (o p : OpenFunction) (kids : List Given)
    (g : GathersParameter c e o p) where
  variadic_met : all_variadic p kids ≡ all_variadic o (e ∷ kids)
  variadic_met = tests (λ (k : Given). k.tag == DW_TAG_unspecified_parameters)
      (e ∷ kids) kids e o.variadic p.variadic
      (all_variadic o (e ∷ kids)) refl g.variadic refl

  parts_met : all_parameters c p kids ≡ all_parameters c o (e ∷ kids)
  parts_met = gathers DW_TAG_formal_parameter (parameter_part c)
      (e ∷ kids) kids e o.parts.items p.parts.items
      (all_parameters c o (e ∷ kids)) refl g.parts refl

  targets_met : all_results c p kids ≡ all_results c o (e ∷ kids)
  targets_met = gathers DW_TAG_formal_parameter (parameter_target c)
      (e ∷ kids) kids e o.targets.items p.targets.items
      (all_results c o (e ∷ kids)) refl g.targets refl

  pub function_met : function_made c p kids ≡ function_made c o (e ∷ kids)
  function_met = made_is c p kids
      ∙ rw (variadic_met, parts_met, targets_met, g.at) (sym (made_is c o (e ∷ kids)))

  noted_met : noted p.least (refusals_by (parameter_refused c)
      (tagged DW_TAG_formal_parameter kids)) ≡ noted o.least
      (refusals_by (parameter_refused c) (tagged DW_TAG_formal_parameter (e ∷ kids)))
  noted_met = notes DW_TAG_formal_parameter (parameter_refused c)
      (e ∷ kids) kids e o.least p.least _ refl g.least refl

  pub function_met_refused : function_refused c p kids ≡ function_refused c o (e ∷ kids)
  function_met_refused =
      let many = too_many o.at
      (length (all_parameters c o (e ∷ kids) ++ rest_part (all_variadic o (e ∷ kids)))) in
      refused_is c p kids
      ∙ rw (variadic_met, parts_met, g.at)
      (noted_append p.least
      (refusals_by (parameter_refused c) (tagged DW_TAG_formal_parameter kids)) many
      ∙ ap (λ (x : Option TypeFault). noted x many) noted_met
      ∙ sym (noted_append o.least
      (refusals_by (parameter_refused c) (tagged DW_TAG_formal_parameter (e ∷ kids)))
      many) ∙ sym (refused_is c o (e ∷ kids)))

-- one that has gathered nothing
empty_made_is : (c : Sections) (at : ℕ) (kids : List Given) → empty_made c at kids
    ≡ function_by at (some_tagged DW_TAG_unspecified_parameters kids) (empty_parts c kids)
    (Void ∷ map (parameter_target c) (tagged DW_TAG_formal_parameter kids))
unfolding empty_made
empty_made_is c at kids = refl

empty_refused_is : (c : Sections) (at : ℕ) (kids : List Given) → empty_refused c at kids
    ≡ noted None (refusals_by (parameter_refused c) (tagged DW_TAG_formal_parameter kids)
    ++ too_many at (length
    (empty_parts c kids ++ rest_part (some_tagged DW_TAG_unspecified_parameters kids))))
unfolding empty_refused
empty_refused_is c at kids = refl

pub empty_made_closed : (c : Sections) (at : ℕ)
    → empty_made c at [] ≡ function_by at false [] (Void ∷ [])
empty_made_closed c at = empty_made_is c at []

pub empty_refused_closed : (c : Sections) (at : ℕ) → empty_refused c at [] ≡ None
empty_refused_closed c at = empty_refused_is c at []

-- it begins to gather
pub first_made : (c : Sections) (at : ℕ) (o : OpenFunction) (kids : List Given)
    → IsNewFunction at Void None o → function_made c o kids ≡ empty_made c at kids
first_made c at o kids h = made_is c o kids ∙ rw (h.at_is, h.parts, h.targets, h.variadic)
    (sym (empty_made_is c at kids))

pub first_refused : (c : Sections) (at : ℕ) (o : OpenFunction) (kids : List Given)
    → IsNewFunction at Void None o → function_refused c o kids ≡ empty_refused c at kids
first_refused c at o kids h = refused_is c o kids
    ∙ rw (h.at_is, h.parts, h.variadic, h.least_is) (sym (empty_refused_is c at kids))

-- a child of another tag changes nothing
untagged : (tag : ℕ) (e : Given) (kids : List Given) → (e.tag == tag) ≡ false
    → tagged tag (e ∷ kids) ≡ tagged tag kids
untagged tag e kids n =
    ap (λ (b : Bool). if b then e ∷ tagged tag kids else tagged tag kids) n

unsome : (tag : ℕ) (e : Given) (kids : List Given) → (e.tag == tag) ≡ false
    → some_tagged tag (e ∷ kids) ≡ some_tagged tag kids
unsome tag e kids n = ap (λ (b : Bool). b || some_tagged tag kids) n

pub empty_passes : (c : Sections) (at : ℕ) (e : Given) (kids : List Given)
    → (e.tag == DW_TAG_formal_parameter) ≡ false → (e.tag == DW_TAG_unspecified_parameters) ≡ false
    → empty_made c at kids ≡ empty_made c at (e ∷ kids)
empty_passes c at e kids p u =
    let t = untagged DW_TAG_formal_parameter e kids p in
    let s = unsome DW_TAG_unspecified_parameters e kids u in
    empty_made_is c at kids ∙ rw (← t, ← s) (sym (empty_made_is c at (e ∷ kids)))

pub empty_passes_refused : (c : Sections) (at : ℕ) (e : Given) (kids : List Given)
    → (e.tag == DW_TAG_formal_parameter) ≡ false → (e.tag == DW_TAG_unspecified_parameters) ≡ false
    → empty_refused c at kids ≡ empty_refused c at (e ∷ kids)
empty_passes_refused c at e kids p u =
    let t = untagged DW_TAG_formal_parameter e kids p in
    let s = unsome DW_TAG_unspecified_parameters e kids u in
    empty_refused_is c at kids ∙ rw (← t, ← s) (sym (empty_refused_is c at (e ∷ kids)))

-- a subroutine type begins
pub function_comes : (s : Scope) (e : Given) (o : Box OpenFunction Global)
    → IsNewFunction e.at (target_of_type e.at (target_attr s.sections e))
    (noted None (target_attr s.sections e).refused) o.value
    → ComesTo s (Function o) (function_row s.sections e)
function_comes s e o h =
    let c = s.sections in
    record {
      made = λ kids. made_is c o.value kids
          ∙ rw (h.at_is, h.parts, h.targets, h.variadic) refl;
      refused = λ kids. refused_is c o.value kids
          ∙ rw (h.at_is, h.parts, h.variadic, h.least_is)
          (sym (noted_append None (target_attr c e).refused _));
    }

pub empty_comes : (s : Scope) (e : Given)
    → target_of_type e.at (target_attr s.sections e) ≡ Void
    → noted None (target_attr s.sections e).refused ≡ None
    → ComesTo s (EmptyFunction e.at) (function_row s.sections e)
empty_comes s e is none =
    let c = s.sections in
    record {
      made = λ kids. empty_made_is c e.at kids ∙ rw (← is) refl;
      refused = λ kids. empty_refused_is c e.at kids
          ∙ ap (λ (x : Option TypeFault). noted x
          (refusals_by (parameter_refused c) (tagged DW_TAG_formal_parameter kids)
          ++ too_many e.at (length
          (empty_parts c kids ++ rest_part (some_tagged DW_TAG_unspecified_parameters kids)))))
          (sym none)
          ∙ sym (noted_append None (target_attr c e).refused _);
    }
