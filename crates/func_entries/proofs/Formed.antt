-- What holds of every function where nothing is refused.
use Rattle.std.proofs.Common.{◌≡◌, ℕ, ◌<◌, ◌==◌, ◌&&◌, ◌||◌, not, Bool, true, false, List, []}
use Rattle.std.proofs.Common.{◌∷◌, ◌++◌, length, Ok, if◌then◌else◌, refl, subst, arith}
use Rattle.std.specs.Prelude.{All}
use Rattle.std.proofs.lemmas.List.Elements.{All-nil, All-cons, All-head, All-tail, All-map}
use Rattle.dwarf_abbrev.specs.Declarations.{Declaration}
use Rattle.dwarf_forms.specs.Meanings.{Sections}
use Rattle.entry_tree.specs.Items.{Given}
use Rattle.entry_tree.specs.Walks.{entries_of}
use Rattle.type_attributes.specs.declared.fault.TypeFault.{TypeFault}
use Rattle.type_attributes.specs.declared.source.SourceType.{SourceType}
use Rattle.type_attributes.specs.Attributes.{name_attr, name_in_full, flag_attr, is_set}
use Rattle.type_attributes.specs.Children.{children_of}
use Rattle.c_types.specs.Formed.{IsFormed, AreFormed}
use Rattle.c_types.specs.Functions.{function_row}
use Rattle.type_attributes.specs.Labels.{is_empty}
use Rattle.type_attributes.specs.Scopes.{scope_of}
use Rattle.c_types.proofs.Formed.Children.{children_all}
use Rattle.c_types.proofs.Formed.Functions.{function_row_formed}
use Rattle.c_types.proofs.Formed.Names.{IsNamedCleanly, name_clean}
use Rattle.c_types.proofs.Formed.Refused.{first_empty, second_empty}
use Rattle.c_types.proofs.Formed.Units.{entries_clean}
use Rattle.func_entries.specs.declared.entries.FuncEntry.{FuncEntry}
use Rattle.func_entries.specs.Functions.{some_refused, has_name, is_function, function_at}
use Rattle.func_entries.specs.Functions.{function_refused, functions_of, refusals_of}
use Rattle.func_entries.specs.Laws.{protos_of, IsName, FunctionsAreFormed, FunctionsAreNamed}
use Rattle.func_entries.specs.Units.{functions_in}
use Rattle.func_entries.proofs.Accepted.{in_walk, in_unit}
use Rattle.dwarf_abbrev.specs.declared.constants.TheConstants.{DW_AT_declaration, DW_AT_external}
use Rattle.dwarf_abbrev.specs.declared.constants.TheConstants.{DW_TAG_subprogram}

-- what holds of one function holds of all
module _ (c : Sections) (P : FuncEntry → Type 0) (Q : Given → Type 0)
    (each : (e : Given) (after : List Given) → Q e → All Q after → is_function c e ≡ true
    → function_refused c e after ≡ [] → P (function_at c e after)) where
  one : (t : Bool) (f : FuncEntry) (fs : List FuncEntry) (mine later : List TypeFault)
      → (t ≡ true → mine ≡ [] → P f) → (later ≡ [] → All P fs)
      → (if t then mine ++ later else later) ≡ [] → All P (if t then f ∷ fs else fs)
  one true f fs mine later h k e =
      All-cons P f fs (h refl (first_empty mine later e)) (k (second_empty mine later e))
  one false f fs mine later h k e = k e

  pub functions_all : (es : List Given) → All Q es → refusals_of c es ≡ []
      → All P (functions_of c es)
  functions_all [] q none = All-nil P
  functions_all (e ∷ es) q none =
      let here = All-head Q e es q in
      let later = All-tail Q e es q in
      one (is_function c e) (function_at c e es) (functions_of c es) (function_refused c e es)
      (refusals_of c es) (λ t n. each e es here later t n) (λ n. functions_all es later n) none

-- prototypes
abbrev HasFormed : FuncEntry → Type 0
HasFormed f = IsFormed f.proto.label (length f.proto.targets)

proto_formed : (c : Sections) (e : Given) (after : List Given) → IsNamedCleanly e
    → All IsNamedCleanly after → is_function c e ≡ true → function_refused c e after ≡ []
    → HasFormed (function_at c e after)
proto_formed c e after clean all is none =
    let row = function_row c e (children_of e.depth after) in
    let unrefused : row.refused ≡ [] =
    second_empty (flag_attr DW_AT_external e).refused row.refused
    (second_empty (flag_attr DW_AT_declaration e).refused
    ((flag_attr DW_AT_external e).refused ++ row.refused)
    (second_empty (name_attr c e).refused _ none)) in
    function_row_formed c e (children_of e.depth after)
    (children_all IsNamedCleanly e.depth after all) unrefused

pub functions_formed : FunctionsAreFormed
functions_formed file unit =
    in_unit file unit (λ (u : List FuncEntry). AreFormed (protos_of u))
    (All-nil (λ (t : SourceType). IsFormed t.label (length t.targets)))
    (λ (declarations : List Declaration) (base : ℕ) (u : List FuncEntry) (e : functions_in
    (scope_of file unit declarations base) (entries_of file unit declarations).ending ≡ Ok u).
    let s = scope_of file unit declarations base in
    let walk = entries_of file unit declarations in
    let a = in_walk s walk.ending u e in
    subst (λ (v : List FuncEntry). AreFormed (protos_of v)) a.1
    (All-map (λ (t : SourceType). IsFormed t.label (length t.targets))
    (λ (f : FuncEntry). f.proto) (functions_of s.sections walk.entries)
    (functions_all s.sections HasFormed IsNamedCleanly (proto_formed s.sections) walk.entries
    (entries_clean file unit declarations) a.0)))

-- names
named_by : (refused : List TypeFault) (name : List ℕ) → refused ≡ []
    → (some_refused refused || not (is_empty name)) ≡ true → 0 < length name
named_by (f ∷ fs) name none e = absurd (cc)
named_by [] [] none e = absurd (cc)
named_by [] (b ∷ bs) none e = omega arith

first_true : (a b d : Bool) → (a && (b && d)) ≡ true → b ≡ true
first_true true true d e = refl
first_true true false d e = cc
first_true false b d e = absurd (cc)

name_is : (c : Sections) (e : Given) (after : List Given) → IsNamedCleanly e
    → All IsNamedCleanly after → is_function c e ≡ true → function_refused c e after ≡ []
    → IsName (name_in_full (name_attr c e))
name_is c e after clean all is none =
    let unrefused : (name_attr c e).refused ≡ [] = first_empty (name_attr c e).refused _ none in
    let named : has_name (name_attr c e) ≡ true = first_true (e.tag == DW_TAG_subprogram)
    (has_name (name_attr c e)) (not (is_set (flag_attr DW_AT_declaration e))) is in (
      named_by (name_attr c e).refused (name_in_full (name_attr c e)) unrefused named,
      name_clean c e clean,
    )

pub functions_named : FunctionsAreNamed
functions_named file unit =
    in_unit file unit (λ (u : List FuncEntry). All (λ (f : FuncEntry). IsName f.name) u)
    (All-nil (λ (f : FuncEntry). IsName f.name))
    (λ (declarations : List Declaration) (base : ℕ) (u : List FuncEntry) (e : functions_in
    (scope_of file unit declarations base) (entries_of file unit declarations).ending ≡ Ok u).
    let s = scope_of file unit declarations base in
    let walk = entries_of file unit declarations in
    let a = in_walk s walk.ending u e in
    subst (λ (v : List FuncEntry). All (λ (f : FuncEntry). IsName f.name) v) a.1
    (functions_all s.sections (λ (f : FuncEntry). IsName f.name) IsNamedCleanly
    (name_is s.sections) walk.entries (entries_clean file unit declarations) a.0))
