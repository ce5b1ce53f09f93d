-- Which attributes an entry has, and where their values stand.
use Rattle.std.proofs.Common.{◌≡◌, ℕ, ◌<◌, ◌==◌, ◌||◌, Bool, true, false, is_ok, is_some, List, []}
use Rattle.std.proofs.Common.{◌∷◌, length, take, drop, get_or, Option, None, Some, Result, Ok, Err}
use Rattle.std.proofs.Common.{if◌then◌else◌, refl, sym, ap, ◌∙◌, zero, suc, arith}
use Rattle.std.specs.Option.{IfSome, IsNone}
use Rattle.std.proofs.lemmas.Bool.{eq-eqb}
use Rattle.std.proofs.lemmas.List.{take-append-drop}
use Rattle.dwarf_abbrev.specs.ValueMaps.{has_spec, IsFirst}
use Rattle.dwarf_abbrev.specs.declared.spec.Spec.{Spec}
use Rattle.dwarf_forms.specs.declared.fault.FormFault.{FormFault}
use Rattle.dwarf_forms.specs.Values.{Shown, Within, value_of}
use Rattle.entry_tree.specs.Reads.{and_then, values_at, ends_at, end_of_values, value_with}
use Rattle.entry_tree.specs.Items.{listed}
use Rattle.entry_tree.specs.Attributes.{HasByAbbreviation, IsFirstAt}
use Rattle.entry_tree.proofs.Ends.{ends_append, found_at, found_listed}

-- an attribute that the abbreviation has
has_one : (x : Shown) (later : Option Shown) (mine has : Bool) → is_some later ≡ has
    → is_some (if mine then Some x else later) ≡ (mine || has)
has_one x later true has h = refl
has_one x later false has h = h

abbrev AreRead : Result (List (ℕ × Shown) × ℕ) FormFault → Type 0
AreRead q = is_ok q ≡ true

abbrev with_value : Spec → Shown → Result (List (ℕ × Shown) × ℕ) FormFault
    → Result (List (ℕ × Shown) × ℕ) FormFault
with_value s v q = and_then q (λ (vs : List (ℕ × Shown) × ℕ). Ok ((s.attribute, v) ∷ vs.0, vs.1))

abbrev from_value : Within → Spec → List Spec → Result (Shown × ℕ) FormFault
    → Result (List (ℕ × Shown) × ℕ) FormFault
from_value c s ss r = and_then r (λ (v : Shown × ℕ). with_value s v.0 (values_at c ss v.1))

has_rest : (s : Spec) (name : ℕ) (v : Shown) (ss : List Spec) (q : Result (List (ℕ × Shown)
    × ℕ) FormFault) → (AreRead q → is_some (value_with name (listed q)) ≡ has_spec name ss)
    → AreRead (with_value s v q) → is_some (value_with name (listed (with_value s v q)))
    ≡ (s.attribute == name || has_spec name ss)
has_rest s name v ss (Ok vs) ih h =
    has_one v (value_with name vs.0) (s.attribute == name) (has_spec name ss) (ih refl)
has_rest s name v ss (Err f) ih h = cc

has_first : (c : Within) (s : Spec) (ss : List Spec) (name : ℕ) (r : Result (Shown × ℕ) FormFault)
    → ((at : ℕ) → AreRead (values_at c ss at)
    → is_some (value_with name (listed (values_at c ss at))) ≡ has_spec name ss)
    → AreRead (from_value c s ss r) → is_some (value_with name (listed (from_value c s ss r)))
    ≡ (s.attribute == name || has_spec name ss)
has_first c s ss name (Ok v) ih h = has_rest s name v.0 ss (values_at c ss v.1) (ih v.1) h
has_first c s ss name (Err f) ih h = cc

pub has_is : HasByAbbreviation
unfolding values_at
has_is c [] from name h = refl
has_is c (s ∷ ss) from name h = has_first c s ss name (value_of c s from)
    (λ (at : ℕ) (h : AreRead (values_at c ss at)). has_is c ss at name h) h

-- an attribute that it has not has no value
gone : (o : Option Shown) (b : Bool) → is_some o ≡ b → b ≡ false → o ≡ None
gone None b h e = refl
gone (Some x) true h e = cc
gone (Some x) false h e = cc

pub has_none : (c : Within) (specs : List Spec) (from name : ℕ) → is_ok (values_at c specs from)
    ≡ true → has_spec name specs ≡ false → value_with name (listed (values_at c specs from)) ≡ None
has_none c specs from name h e = gone (value_with name (listed (values_at c specs from)))
    (has_spec name specs) (has_is c specs from name h) e

-- an abbreviation has an attribute exactly where one of the name is the first
has_there : (specs : List Spec) (name i : ℕ) (d : Spec) → i < length specs
    → (get_or specs i d).attribute ≡ name → has_spec name specs ≡ true
has_there [] name i d lt is = absurd (omega (arith, lt))
has_there (s ∷ ss) name zero d lt is = rw (eq-eqb s.attribute name is) refl
has_there (s ∷ ss) name (suc i) d lt is = or_later (s.attribute == name) (has_spec name ss)
    (has_there ss name i d (omega (arith, lt)) is) where
      or_later : (a b : Bool) → b ≡ true → (a || b) ≡ true
      or_later true b h = refl
      or_later false b h = h

pub tells_by_first : (specs : List Spec) (name : ℕ) (d : Spec) (o : Option ℕ)
    → IfSome o (IsFirst name specs) → (IsNone o → has_spec name specs ≡ false)
    → is_some o ≡ has_spec name specs
tells_by_first specs name d (Some i) first none =
    sym (has_there specs name i d first.inside (first.there d))
tells_by_first specs name d None first none = sym (none refl)

-- where all values can be read, those before an attribute can
ends_read : (q : Result (List (ℕ × Shown) × ℕ) FormFault) → is_ok q ≡ true
    → is_ok (end_of_values q) ≡ true
ends_read (Ok vs) h = refl
ends_read (Err f) h = cc

refused_whole : (c : Within) (specs : List Spec) (i from : ℕ) (f : FormFault)
    → ends_at c (take i specs) from ≡ Err f → ends_at c specs from ≡ Err f
refused_whole c specs i from f e =
    ap (λ (ss : List Spec). ends_at c ss from) (sym (take-append-drop i specs))
    ∙ ends_append c (take i specs) (drop i specs) from
    ∙ ap (λ (r : Result ℕ FormFault). and_then r (λ (m : ℕ). ends_at c (drop i specs) m)) e

clash : {P : Type 0} (f : FormFault) (r : Result ℕ FormFault) → is_ok r ≡ true → r ≡ Err f → P
clash f (Ok n) h e = cc
clash f (Err g) h e = cc

pub none_refused : {P : Type 0} (c : Within) (specs : List Spec) (i from : ℕ) (f : FormFault)
    → is_ok (values_at c specs from) ≡ true → ends_at c (take i specs) from ≡ Err f → P
none_refused c specs i from f read e =
    clash f (ends_at c specs from) (ends_read (values_at c specs from) read)
    (refused_whole c specs i from f e)

-- the first attribute of a name, behind the values before it
pub first_at : (c : Within) (specs : List Spec) (index from at name : ℕ) (d : Spec)
    → is_ok (values_at c specs from) ≡ true → IsFirst name specs index
    → ends_at c (take index specs) from ≡ Ok at
    → IsFirstAt c name (listed (values_at c specs from)) (get_or specs index d) at
first_at c specs index from at name d read first ends = record {
  named = first.there d;
  value =
      sym (found_at c specs index from at name d first.inside first.before (first.there d) ends)
      ∙ found_listed c specs from name read;
}
