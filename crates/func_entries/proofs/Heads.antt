-- Functions are their heads with their prototypes.
use Rattle.std.proofs.Common.{◌≡◌, ℕ, ◌==◌, ◌&&◌, not, Bool, true, false, List, [], ◌∷◌, ◌++◌}
use Rattle.std.proofs.Common.{Option, None, Some, is_some, if◌then◌else◌, refl, sym, ap, ◌∙◌}
use Rattle.std.proofs.Common.{append_assoc}
use Rattle.std.proofs.lemmas.Option.{none-some, same_Some}
use Rattle.dwarf_forms.specs.Meanings.{Sections}
use Rattle.entry_tree.specs.Items.{Given}
use Rattle.type_attributes.specs.declared.fault.TypeFault.{TypeFault}
use Rattle.type_attributes.specs.Faults.{first_of, noted, joined}
use Rattle.type_attributes.specs.declared.source.SourceType.{SourceType}
use Rattle.type_attributes.specs.Attributes.{Attr, name_attr, name_in_full, flag_attr, is_set}
use Rattle.type_attributes.specs.Children.{children_of}
use Rattle.c_types.specs.Functions.{function_row}
use Rattle.type_attributes.specs.Labels.{is_empty}
use Rattle.c_types.proofs.Joining.{joined_noted}
use Rattle.type_attributes.proofs.Noting.{noted_append}
use Rattle.dw_base.proofs.Bools.{or_true}
use Rattle.func_entries.specs.declared.entries.FuncEntry.{FuncEntry}
use Rattle.func_entries.specs.declared.walking.Head.{Head}
use Rattle.func_entries.specs.Functions.{some_refused, has_name, is_function, function_refused}
use Rattle.func_entries.specs.Functions.{functions_of, refusals_of}
use Rattle.func_entries.specs.Walking.{head_listed, refused_at, heads_of, prototypes_of, entry_of}
use Rattle.func_entries.specs.Walking.{paired}
use Rattle.dwarf_abbrev.specs.declared.constants.TheConstants.{DW_AT_declaration, DW_AT_external}
use Rattle.dwarf_abbrev.specs.declared.constants.TheConstants.{DW_TAG_subprogram}

one_paired : (t : Bool) (h : Head) (p : SourceType) (hs : List Head) (ps : List SourceType)
    (fs : List FuncEntry) → paired hs ps ≡ fs
    → paired (head_listed (if t then Some h else None) ++ hs) ((if t then p ∷ [] else []) ++ ps)
    ≡ (if t then entry_of (h, p) ∷ fs else fs)
one_paired true h p hs ps fs e = ap (λ (gs : List FuncEntry). entry_of (h, p) ∷ gs) e
one_paired false h p hs ps fs e = e

pub functions_paired : (c : Sections) (es : List Given)
    → paired (heads_of c es) (prototypes_of c es) ≡ functions_of c es
functions_paired c [] = refl
functions_paired c (e ∷ es) =
    one_paired (is_function c e) (record {
      name = name_in_full (name_attr c e);
      external = is_set (flag_attr DW_AT_external e);
    }) (function_row c e (children_of e.depth es)).made
    (heads_of c es) (prototypes_of c es) (functions_of c es) (functions_paired c es)

one_refused : (t : Bool) (mine later : List TypeFault)
    → (if t then mine ++ later else later) ≡ (if t then mine else []) ++ later
one_refused true mine later = refl
one_refused false mine later = refl

pub refusals_split : (c : Sections) (e : Given) (es : List Given)
    → refusals_of c (e ∷ es) ≡ refused_at c e es ++ refusals_of c es
refusals_split c e es = one_refused (is_function c e) (function_refused c e es) (refusals_of c es)

-- what an entry is, by the tests that are made of it
pub function_by : (c : Sections) (e : Given) (t n d : Bool) → (e.tag == DW_TAG_subprogram) ≡ t
    → has_name
    (name_attr c e) ≡ n → is_set (flag_attr DW_AT_declaration e) ≡ d
    → is_function c e ≡ (t && (n && not d))
function_by c e t n d p q r = rw (p, q, r) refl

-- whether something was refused
once_refused : (f : TypeFault) (fs : List TypeFault) → is_some (noted (Some f) fs) ≡ true
once_refused f [] = refl
once_refused f (g ∷ fs) = once_refused (first_of f g) fs

pub refused_is : (fs : List TypeFault) → is_some (noted None fs) ≡ some_refused fs
refused_is [] = refl
refused_is (f ∷ fs) = once_refused f fs

pub head_known : (t : Bool) (h k : Head) → (if t then Some h else None) ≡ Some k
    → (t ≡ true) × (h ≡ k)
head_known true h k e = (refl, same_Some h k e)
head_known false h k e = absurd (none-some k e)

pub head_unknown : (t : Bool) (h : Head) → (if t then Some h else None) ≡ None → t ≡ false
head_unknown true h e = absurd (none-some h (sym e))
head_unknown false h e = refl

-- its own refusals, and those of its row
pub refusals_joined : (t : Bool) (names declarations externals row later : List TypeFault)
    → t ≡ true
    → (if t then names ++ (declarations ++ externals) else []) ++ (row ++ later)
    ≡ (if t then names ++ (declarations ++ (externals ++ row)) else []) ++ later
refusals_joined true ns ds xs row later e = simp append_assoc refl
refusals_joined false ns ds xs row later e = absurd (cc)

pub named_by_refusal : (name : Attr (List ℕ)) (found : Option TypeFault)
    → found ≡ noted None name.refused → is_some found ≡ true → has_name name ≡ true
named_by_refusal name found is some =
    let told : some_refused name.refused ≡ true =
    sym (refused_is name.refused) ∙ ap (λ (o : Option TypeFault). is_some o) (sym is) ∙ some in
    rw told refl

pub named_by_name : (name : Attr (List ℕ)) → is_empty (name_in_full name) ≡ false
    → has_name name ≡ true
named_by_name name full = rw full (or_true (some_refused name.refused))

-- the refusals of an entry's own values, noted apart and then with others
pub values_noted : (o named declared external : Option TypeFault)
    (names declarations externals : List TypeFault) → named ≡ noted None names
    → declared ≡ noted named declarations → external ≡ noted declared externals
    → joined o external ≡ noted o (names ++ (declarations ++ externals))
values_noted o named declared external ns ds xs p q r =
    ap (λ (y : Option TypeFault). joined o y)
    (r ∙ ap (λ (y : Option TypeFault). noted y xs) (q ∙ ap (λ (y : Option TypeFault). noted y ds)
    p) ∙ sym (noted_append (noted None ns) ds xs) ∙ sym (noted_append None ns (ds ++ xs)))
    ∙ joined_noted o None (ns ++ (ds ++ xs))
