-- A step reads just what the standard lays out.
use Rattle.std.proofs.Common.{◌≡◌, ℕ, ◌==◌, ◌&&◌, ◌⊎◌, ℤ, pos, Bool, true, false, List, Option}
use Rattle.std.proofs.Common.{None, Some, Result, Ok, Err, if◌then◌else◌, refl, sym, ap, subst, ◌∙◌}
use Rattle.std.proofs.Common.{inl, inr}
use Rattle.std.proofs.lemmas.Bool.{eq-eqb, ne_eqb, eqb-true, eqb-false, both_ways, and_parts}
use Rattle.dw_base.specs.Leb128.{uleb_of, sleb_of}
use Rattle.dw_base.specs.declared.leb128.LebFault.{LebFault}
use Rattle.dw_base.specs.declared.leb128.LebFault.TheVariants.{Truncated, TooWide}
use Rattle.dw_base.proofs.Ends.{ok_parts}
use Rattle.dwarf_abbrev.specs.declared.constants.TheConstants.{DW_FORM_implicit_const}
use Rattle.dwarf_abbrev.specs.declared.spec.Spec.{Spec}
use Rattle.dwarf_abbrev.specs.declared.fault.AbbrevFault.{AbbrevFault}
use Rattle.dwarf_abbrev.specs.Table.{◌>>=◌, of_leb, number_at, signed_at, spec_at}
use Rattle.dwarf_abbrev.specs.Standard.{IsNumber, IsPlain, IsPair, IsLast}
use Rattle.dwarf_abbrev.proofs.Grow.{bind_ok}

-- numbers
leb_is : {A : Type 0} (start at : ℕ) (r : Result A LebFault) (x : A) → of_leb start at r ≡ Ok x
    → r ≡ Ok x
leb_is start at (Ok y) x e = let q : y ≡ x = cc in ap (λ z. Ok z) q
leb_is start at (Err Truncated) x e = cc
leb_is start at (Err TooWide) x e = cc

pub number_is : (bytes : List ℕ) (start at : ℕ) (x : ℕ × ℕ) → number_at bytes start at ≡ Ok x
    → IsNumber bytes at x.0 x.1
number_is bytes start at x e = leb_is start at (uleb_of bytes at) x e

pub number_gives : (bytes : List ℕ) (start at v after : ℕ) → IsNumber bytes at v after
    → number_at bytes start at ≡ Ok (v, after)
number_gives bytes start at v after e = ap (of_leb start at) e

pub signed_is : (bytes : List ℕ) (start at : ℕ) (x : ℤ × ℕ) → signed_at bytes start at ≡ Ok x
    → sleb_of bytes at ≡ Ok x
signed_is bytes start at x e = leb_is start at (sleb_of bytes at) x e

pub bind_gives : {A B : Type 0} (r : Result A AbbrevFault) (f : A → Result B AbbrevFault) (x : A)
    → r ≡ Ok x → (r >>= f) ≡ f x
bind_gives r f x e = rw e refl

-- a pair
abbrev pub made_of : ℕ → ℕ → ℤ → Spec
made_of name form value = record { attribute = name; form = form; implicit = value }

abbrev pub with_value : List ℕ → ℕ → ℕ × ℕ → ℕ × ℕ → Result (Option Spec × ℕ) AbbrevFault
with_value bytes start name form = signed_at bytes start form.1 >>= λ (value : ℤ × ℕ).
    Ok (Some (made_of name.0 form.0 value.0), value.1)

abbrev pub without : ℕ × ℕ → ℕ × ℕ → Result (Option Spec × ℕ) AbbrevFault
without name form = if name.0 == 0 && form.0 == 0 then Ok (None, form.1)
    else Ok (Some (made_of name.0 form.0 (pos 0)), form.1)

abbrev pub after_form : List ℕ → ℕ → ℕ × ℕ → ℕ × ℕ → Result (Option Spec × ℕ) AbbrevFault
after_form bytes start name form =
    if form.0 == DW_FORM_implicit_const then with_value bytes start name form else without name form

not_both : (a b : Bool) → (a && b) ≡ false → a ≡ true → b ≡ false
not_both true b e t = e
not_both false b e t = cc

one_false : (a b : Bool) → (a ≡ true → b ≡ false) → (a && b) ≡ false
one_false true b f = f refl
one_false false b f = refl

-- what was found, and how
pub record Found (bytes : List ℕ) (at : ℕ) (o : Option Spec) (after : ℕ) : Type 0 where
  pub pair : (s : Spec) → o ≡ Some s → IsPair bytes at s after
  pub last : o ≡ None → IsLast bytes at after

wide : (bytes : List ℕ) (start at after : ℕ) (o : Option Spec) (name form : ℕ × ℕ) → IsNumber bytes
    at name.0 name.1 → IsNumber bytes name.1 form.0 form.1 → form.0 ≡ DW_FORM_implicit_const
    → with_value bytes start name form ≡ Ok (o, after) → Found bytes at o after
wide bytes start at after o name form n f is e =
    let b = bind_ok (signed_at bytes start form.1)
    (λ (value : ℤ × ℕ). Ok (Some (made_of name.0 form.0 value.0), value.1)) (o, after) e in
    let v : sleb_of bytes form.1 ≡ Ok (b.0.0, b.0.1) = signed_is bytes start form.1 b.0 b.1 in
    let p = ok_parts {F = AbbrevFault} (Some (made_of name.0 form.0 b.0.0)) o b.0.1 after b.2 in
    let value : sleb_of bytes form.1 ≡ Ok (b.0.0, after) = v ∙ ap (λ (k : ℕ). Ok (b.0.0, k)) p.1 in
    let pair : IsPair bytes at (made_of name.0 form.0 b.0.0) after = record {
      form_at = name.1;
      value_at = form.1;
      attribute = n;
      form = f;
      value = inl (is, value);
    } in
    record {
      pair = λ (s : Spec) (h : o ≡ Some s). let q : made_of name.0 form.0 b.0.0 ≡ s =
          same_some (made_of name.0 form.0 b.0.0) s (p.0 ∙ h) in
          subst (λ (s : Spec). IsPair bytes at s after) q pair;
      last = λ (h : o ≡ None). absurd (some_none (made_of name.0 form.0 b.0.0) (p.0 ∙ h));
    }
  where
    same_some : (a b : Spec) → ◌≡◌ {A = Option Spec} (Some a) (Some b) → a ≡ b
    same_some a b e = cc

    some_none : (a : Spec) → ◌≡◌ {A = Option Spec} (Some a) None → ⊥
    some_none a e = cc

in_range_spec : (bytes : List ℕ) (at after : ℕ) (o : Option Spec) (name form : ℕ × ℕ) (t : Bool)
    → IsNumber bytes at name.0 name.1 → IsNumber bytes name.1 form.0 form.1
    → (form.0 ≡ DW_FORM_implicit_const → ⊥)
    → (name.0 == 0 && form.0 == 0) ≡ t → ◌≡◌ {A = Result (Option Spec × ℕ) AbbrevFault}
    (if t then Ok (None, form.1) else Ok (Some (made_of name.0 form.0 (pos 0)), form.1))
    (Ok (o, after)) → Found bytes at o after
in_range_spec bytes at after o name form true n f other t e =
    let b = and_parts (name.0 == 0) (form.0 == 0) t in
    let p = ok_parts {F = AbbrevFault} None o form.1 after e in
    let zero_name : IsNumber bytes at 0 name.1 =
    subst (λ (k : ℕ). IsNumber bytes at k name.1) (eqb-true name.0 0 b.0) n in
    let zero_form : IsNumber bytes name.1 0 after = subst (λ (k : ℕ). IsNumber bytes name.1 k after)
    (eqb-true form.0 0 b.1) (subst (λ (k : ℕ). IsNumber bytes name.1 form.0 k) p.1 f) in
    record {
      pair = λ (s : Spec) (h : o ≡ Some s). absurd (some_none s (sym h ∙ sym p.0));
      last = λ (h : o ≡ None). (name.1, zero_name, zero_form);
    }
  where
    some_none : (a : Spec) → ◌≡◌ {A = Option Spec} (Some a) None → ⊥
    some_none a e = cc
in_range_spec bytes at after o name form false n f other t e =
    let p = ok_parts {F = AbbrevFault} (Some (made_of name.0 form.0 (pos 0))) o form.1 after e in
    let plain : IsPlain (made_of name.0 form.0 (pos 0)) =
    record {
      other = other;
      some = λ (a : name.0 ≡ 0) (b : form.0 ≡ 0). both_ways (name.0 == 0
          && form.0 == 0) t (rw (eq-eqb name.0 0 a, eq-eqb form.0 0 b) refl);
      none = refl;
    } in
    let pair : IsPair bytes at (made_of name.0 form.0 (pos 0)) after = record {
      form_at = name.1;
      value_at = form.1;
      attribute = n;
      form = f;
      value = inr (plain, p.1);
    } in
    record {
      pair = λ (s : Spec) (h : o ≡ Some s). subst (λ (s : Spec). IsPair bytes at s after)
          (same_some (made_of name.0 form.0 (pos 0)) s (p.0 ∙ h)) pair;
      last = λ (h : o ≡ None). absurd (some_none (made_of name.0 form.0 (pos 0)) (p.0 ∙ h));
    }
  where
    same_some : (a b : Spec) → ◌≡◌ {A = Option Spec} (Some a) (Some b) → a ≡ b
    same_some a b e = cc

    some_none : (a : Spec) → ◌≡◌ {A = Option Spec} (Some a) None → ⊥
    some_none a e = cc

by_form : (bytes : List ℕ) (start at after : ℕ) (o : Option Spec) (name form : ℕ × ℕ) (t : Bool)
    → IsNumber bytes at name.0 name.1 → IsNumber bytes name.1 form.0 form.1
    → (form.0 == DW_FORM_implicit_const) ≡ t
    → (if t then with_value bytes start name form else without name form) ≡ Ok (o, after)
    → Found bytes at o after
by_form bytes start at after o name form true n f t e =
    wide bytes start at after o name form n f (eqb-true form.0 DW_FORM_implicit_const t) e
by_form bytes start at after o name form false n f t e = in_range_spec bytes at after o name form
    (name.0 == 0 && form.0 == 0) n f (eqb-false form.0 DW_FORM_implicit_const t) refl e

pub spec_is : (bytes : List ℕ) (start at after : ℕ) (o : Option Spec)
    → spec_at bytes start at ≡ Ok (o, after) → Found bytes at o after
unfolding spec_at
spec_is bytes start at after o e =
    let a = bind_ok (number_at bytes start at) (λ (name : ℕ × ℕ). number_at bytes start name.1
    >>= after_form bytes start name) (o, after) e in
    let b = bind_ok (number_at bytes start a.0.1) (after_form bytes start a.0) (o, after) a.2 in
    by_form bytes start at after o a.0 b.0 (b.0.0 == DW_FORM_implicit_const)
    (number_is bytes start at a.0 a.1) (number_is bytes start a.0.1 b.0 b.1) refl b.2

after_pair : (bytes : List ℕ) (start after : ℕ) (s : Spec) (name_end value_at : ℕ)
    → ((s.form ≡ DW_FORM_implicit_const) × (sleb_of bytes value_at ≡ Ok (s.implicit, after)))
    ⊎ (IsPlain s × (value_at ≡ after))
    → after_form bytes start (s.attribute, name_end) (s.form, value_at) ≡ Ok (Some s, after)
after_pair bytes start after s name_end value_at (inl h) =
    let v : signed_at bytes start value_at ≡ Ok (s.implicit, after) =
    ap (of_leb start value_at) h.1 in
    rw (eq-eqb s.form DW_FORM_implicit_const h.0)
    (bind_gives (signed_at bytes start value_at) (λ (value : ℤ × ℕ).
    Ok (Some (made_of s.attribute s.form value.0), value.1)) (s.implicit, after) v)
after_pair bytes start after s name_end value_at (inr h) =
    let t : (s.attribute == 0 && s.form == 0) ≡ false =
    one_false (s.attribute == 0) (s.form == 0) (λ (a : (s.attribute == 0) ≡ true).
    ne_eqb s.form 0 (h.0.some (eqb-true s.attribute 0 a))) in
    let m : made_of s.attribute s.form (pos 0) ≡ s =
    ap (λ (z : ℤ). made_of s.attribute s.form z) (sym h.0.none) in
    rw (ne_eqb s.form DW_FORM_implicit_const h.0.other, t, h.1)
    (ap (λ (s : Spec). Ok (Some s, after)) m)

pub pair_read : (bytes : List ℕ) (start at after : ℕ) (s : Spec) → IsPair bytes at s after
    → spec_at bytes start at ≡ Ok (Some s, after)
unfolding spec_at
pair_read bytes start at after s p =
    bind_gives (number_at bytes start at)
    (λ (name : ℕ × ℕ). number_at bytes start name.1 >>= after_form bytes start name)
    (s.attribute, p.form_at) (number_gives bytes start at s.attribute p.form_at p.attribute)
    ∙ bind_gives (number_at bytes start p.form_at)
    (after_form bytes start (s.attribute, p.form_at)) (s.form, p.value_at)
    (number_gives bytes start p.form_at s.form p.value_at p.form)
    ∙ after_pair bytes start after s p.form_at p.value_at p.value

pub last_read : (bytes : List ℕ) (start at after : ℕ) → IsLast bytes at after
    → spec_at bytes start at ≡ Ok (None, after)
unfolding spec_at
last_read bytes start at after l =
    bind_gives (number_at bytes start at) (λ (name : ℕ × ℕ). number_at bytes start name.1
    >>= after_form bytes start name) (0, l.0) (number_gives bytes start at 0 l.0 l.1)
    ∙ bind_gives (number_at bytes start l.0) (after_form bytes start (0, l.0)) (0, after)
    (number_gives bytes start l.0 0 after l.2)
