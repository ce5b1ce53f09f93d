-- A table is refused for the first piece that can't be read.
use Rattle.std.proofs.Common.{◌≡◌, ◌≢◌, ℕ, ◌+◌, ◌≤◌, ◌==◌, ◌&&◌, ◌⊎◌, ℤ, pos, nat_lt, Bool, true}
use Rattle.std.proofs.Common.{false, List, [], ◌∷◌, ◌++◌, length, drop, Option, None, Some, is_some}
use Rattle.std.proofs.Common.{Result, Ok, Err, if◌then◌else◌, refl, sym, ap, subst, ◌∙◌, arith, inl}
use Rattle.std.proofs.Common.{inr}
use Rattle.std.specs.List.{slice_get}
use Rattle.std.proofs.Math.ListN.{drop_of_length-le}
use Rattle.std.proofs.lemmas.Bool.{ne_eqb, eqb-true, eqb-false, ltb-true, lt-ltb}
use Rattle.dw_base.specs.Leb128.{uleb_of, sleb_of, leb_bytes}
use Rattle.dw_base.specs.Collect.{collect}
use Rattle.dw_base.specs.declared.leb128.LebFault.{LebFault}
use Rattle.dw_base.specs.declared.leb128.LebFault.TheVariants.{Truncated, TooWide}
use Rattle.dwarf_abbrev.specs.declared.constants.TheConstants.{DW_FORM_implicit_const}
use Rattle.dwarf_abbrev.specs.declared.spec.Spec.{Spec}
use Rattle.dwarf_abbrev.specs.declared.fault.AbbrevFault.{AbbrevFault}
use Rattle.dwarf_abbrev.specs.declared.fault.AbbrevFault.TheVariants.{AbbrevTruncated, AbbrevTwice}
use Rattle.dwarf_abbrev.specs.declared.fault.AbbrevFault.TheVariants.{LebWide, ChildrenByte, Memory}
use Rattle.dwarf_abbrev.specs.Declarations.{Declaration, place_of}
use Rattle.dwarf_abbrev.specs.Table.{◌>>=◌, of_leb, number_at, signed_at, spec_at, specs_of}
use Rattle.dwarf_abbrev.specs.Table.{flag_from, flag_at, declaration_at, table_at, Gives}
use Rattle.dwarf_abbrev.specs.Law.{Reads}
use Rattle.dwarf_abbrev.specs.Standard.{IsNumber, ArePairs, IsNew}
use Rattle.dwarf_abbrev.specs.Refusals.{number_fault, NoChildren, NoForm, NoPair, NoPairs, NoRest}
use Rattle.dwarf_abbrev.specs.Refusals.{NoTag, IsTwice, NoDeclaration, AreDeclarations, IsRefused}
use Rattle.dwarf_abbrev.proofs.Grow.{declaration_goes}
use Rattle.dwarf_abbrev.proofs.Steps.{made_of, with_value, without, after_form, number_is}
use Rattle.dwarf_abbrev.proofs.Steps.{number_gives, bind_gives, spec_is, pair_read}
use Rattle.dwarf_abbrev.proofs.Spelled.{step, spec_found, flag_is, flag_read, none_new, new_none}
use Rattle.dwarf_abbrev.proofs.Spelled.{made, after_children, after_tag, after_code, after_new}
use Rattle.dwarf_abbrev.proofs.Spelled.{after_start, AreNew, all_left, all_right, none_seen}
use Rattle.dwarf_abbrev.proofs.Spelled.{declaration_is, declaration_read, read}
use Rattle.dwarf_abbrev.proofs.Faulty.{Follows, first_fault, fault_first}

bind_err : {A B : Type 0} (r : Result A AbbrevFault) (f : A → Result B AbbrevFault)
    (e : AbbrevFault) → (r >>= f) ≡ Err e → (r ≡ Err e) ⊎ ((x : A) × (r ≡ Ok x) × (f x ≡ Err e))
bind_err {A} {B} (Err d) f e h = let q : d ≡ e = same d e h in
    inl (ap (λ (d : AbbrevFault). Err d) q)
  where
    same : (a b : AbbrevFault) → ◌≡◌ {A = Result B AbbrevFault} (Err a) (Err b) → a ≡ b
    same a b e = cc
bind_err (Ok x) f e h = inr (x, refl, h)

bind_fails : {A B : Type 0} (r : Result A AbbrevFault) (f : A → Result B AbbrevFault)
    (e : AbbrevFault) → r ≡ Err e → (r >>= f) ≡ Err e
bind_fails r f e h = rw h refl

-- numbers
leb_fault : {A : Type 0} (start at : ℕ) (r : Result A LebFault) (f : AbbrevFault)
    → of_leb start at r ≡ Err f → (e : LebFault) × (r ≡ Err e) × (f ≡ number_fault start at e)
leb_fault start at (Ok y) f e = cc
leb_fault {A} start at (Err Truncated) f e = (Truncated, refl, same (AbbrevTruncated start) f e)
  where
    same : (a b : AbbrevFault) → ◌≡◌ {A = Result A AbbrevFault} (Err a) (Err b) → b ≡ a
    same a b e = cc
leb_fault {A} start at (Err TooWide) f e = (TooWide, refl, same (LebWide at) f e)
  where
    same : (a b : AbbrevFault) → ◌≡◌ {A = Result A AbbrevFault} (Err a) (Err b) → b ≡ a
    same a b e = cc

told : {A : Type 0} (start at : ℕ) (e : LebFault)
    → of_leb {A = A} start at (Err e) ≡ Err (number_fault start at e)
told start at Truncated = refl
told start at TooWide = refl

leb_fails : {A : Type 0} (start at : ℕ) (r : Result A LebFault) (f : AbbrevFault)
    → ((e : LebFault) × (r ≡ Err e) × (f ≡ number_fault start at e)) → of_leb start at r ≡ Err f
leb_fails start at r f h =
    ap (of_leb start at) h.1 ∙ told start at h.0 ∙ ap (λ (g : AbbrevFault). Err g) (sym h.2)

-- a pair
pick : (bytes : List ℕ) (start : ℕ) (name form : ℕ × ℕ) (f : AbbrevFault) (t : Bool)
    → (form.0 == DW_FORM_implicit_const) ≡ t
    → (if t then with_value bytes start name form else without name form) ≡ Err f
    → (form.0 ≡ DW_FORM_implicit_const) × (signed_at bytes start form.1 ≡ Err f)
pick bytes start name form f true t e = (
  eqb-true form.0 DW_FORM_implicit_const t,
  by (bind_err (signed_at bytes start form.1)
      (λ (value : ℤ × ℕ). Ok (Some (made_of name.0 form.0 value.0), value.1)) f e),
)
  where
    by : (signed_at bytes start form.1 ≡ Err f) ⊎ ((x : ℤ × ℕ)
        × (signed_at bytes start form.1 ≡ Ok x) × (◌≡◌ {A = Result (Option Spec × ℕ) AbbrevFault}
        (Ok (Some (made_of name.0 form.0 x.0), x.1)) (Err f)))
        → signed_at bytes start form.1 ≡ Err f
    by (inl h) = h
    by (inr h) = absurd (never h.0 h.2)
      where
        never : (x : ℤ × ℕ) → ◌≡◌ {A = Result (Option Spec × ℕ) AbbrevFault}
            (Ok (Some (made_of name.0 form.0 x.0), x.1)) (Err f) → ⊥
        never x e = cc
pick bytes start name form f false t e = absurd (never (name.0 == 0 && form.0 == 0) e)
  where
    never : (b : Bool) → ◌≡◌ {A = Result (Option Spec × ℕ) AbbrevFault} (if b then Ok (None, form.1)
        else Ok (Some (made_of name.0 form.0 (pos 0)), form.1)) (Err f) → ⊥
    never true e = cc
    never false e = cc

spec_refused : (bytes : List ℕ) (start at : ℕ) (f : AbbrevFault) → spec_at bytes start at ≡ Err f
    → NoPair bytes start at f
unfolding spec_at
spec_refused bytes start at f e = by (bind_err (number_at bytes start at)
    (λ (name : ℕ × ℕ). number_at bytes start name.1 >>= after_form bytes start name) f e)
  where
    by : (number_at bytes start at ≡ Err f) ⊎ ((name : ℕ × ℕ) × (number_at bytes start at
        ≡ Ok name) × ((number_at bytes start name.1 >>= after_form bytes start name) ≡ Err f))
        → NoPair bytes start at f
    by (inl h) = inl (leb_fault start at (uleb_of bytes at) f h)
    by (inr h) = inr (
      h.0.0,
      h.0.1,
      number_is bytes start at h.0 h.1,
      form h.0 (bind_err (number_at bytes start h.0.1) (after_form bytes start h.0) f h.2),
    )
      where
        form : (name : ℕ × ℕ) → (number_at bytes start name.1 ≡ Err f) ⊎ ((x : ℕ × ℕ)
            × (number_at bytes start name.1 ≡ Ok x) × (after_form bytes start name x ≡ Err f))
            → NoForm bytes start name.1 f
        form name (inl h) = inl (leb_fault start name.1 (uleb_of bytes name.1) f h)
        form name (inr h) =
            let p = pick bytes start name h.0 f (h.0.0 == DW_FORM_implicit_const) refl h.2 in
            inr (
              h.0.1,
              subst (λ (k : ℕ). IsNumber bytes name.1 k h.0.1) p.0 (number_is bytes start
                  name.1 h.0 h.1),
              leb_fault start h.0.1 (sleb_of bytes h.0.1) f p.1,
            )

form_fails : (bytes : List ℕ) (start name mid : ℕ) (f : AbbrevFault) → NoForm bytes start mid f
    → (number_at bytes start mid >>= after_form bytes start (name, mid)) ≡ Err f
form_fails bytes start name mid f (inl h) = bind_fails (number_at bytes start mid)
    (after_form bytes start (name, mid)) f (leb_fails start mid (uleb_of bytes mid) f h)
form_fails bytes start name mid f (inr h) =
    bind_gives (number_at bytes start mid) (after_form bytes start (name, mid))
    (DW_FORM_implicit_const, h.0) (number_gives bytes start mid DW_FORM_implicit_const h.0 h.1)
    ∙ bind_fails (signed_at bytes start h.0)
    (λ (value : ℤ × ℕ). Ok (Some (made_of name DW_FORM_implicit_const value.0), value.1)) f
    (leb_fails start h.0 (sleb_of bytes h.0) f h.2)

spec_fails : (bytes : List ℕ) (start at : ℕ) (f : AbbrevFault) → NoPair bytes start at f
    → spec_at bytes start at ≡ Err f
unfolding spec_at
spec_fails bytes start at f (inl h) =
    bind_fails (number_at bytes start at) (λ (name : ℕ × ℕ). number_at bytes start name.1
    >>= after_form bytes start name) f (leb_fails start at (uleb_of bytes at) f h)
spec_fails bytes start at f (inr h) =
    bind_gives (number_at bytes start at) (λ (name : ℕ × ℕ). number_at bytes start name.1
    >>= after_form bytes start name) (h.0, h.1) (number_gives bytes start at h.0 h.1 h.2)
    ∙ form_fails bytes start h.0 h.1 f h.3

-- past the end
number_out : (bytes : List ℕ) (start at : ℕ) → length bytes ≤ at
    → number_at bytes start at ≡ Err (AbbrevTruncated start)
unfolding uleb_of leb_bytes
number_out bytes start at le = let d : drop at bytes ≡ [] =
    drop_of_length-le bytes {i = at} le in rw d refl

spec_out : (bytes : List ℕ) (start at : ℕ) → length bytes ≤ at
    → spec_at bytes start at ≡ Err (AbbrevTruncated start)
unfolding spec_at
spec_out bytes start at le =
    bind_fails (number_at bytes start at) (λ (name : ℕ × ℕ). number_at bytes start name.1
    >>= after_form bytes start name) (AbbrevTruncated start) (number_out bytes start at le)

declaration_out : (bytes : List ℕ) (at : ℕ) (seen : List Declaration) → length bytes ≤ at
    → declaration_at bytes at seen ≡ Err (AbbrevTruncated at)
unfolding declaration_at
declaration_out bytes at seen le = bind_fails (number_at bytes at at) (after_start bytes at seen)
    (AbbrevTruncated at) (number_out bytes at at le)

-- the pairs
pairs_follow : (bytes : List ℕ) (start at mid : ℕ) (seen ss : List Spec)
    → Follows (step bytes start) (λ (place : ℕ). AbbrevTruncated start) at seen ss mid
    → ArePairs bytes at ss mid
pairs_follow bytes start at mid seen [] h = h
pairs_follow bytes start at mid seen (s ∷ ss) h = (
  h.0,
  (spec_is bytes start at h.0
      (Some s) h.1).pair s refl,
  pairs_follow bytes start h.0 mid (seen ++ s ∷ []) ss h.2,
)

follow_pairs : (bytes : List ℕ) (start at mid : ℕ) (seen ss : List Spec) → ArePairs bytes at ss mid
    → Follows (step bytes start) (λ (place : ℕ). AbbrevTruncated start) at seen ss mid
follow_pairs bytes start at mid seen [] h = h
follow_pairs bytes start at mid seen (s ∷ ss) h = (
  h.0,
  pair_read bytes start at h.0 s h.1,
  follow_pairs bytes start h.0 mid (seen ++ s ∷ []) ss h.2,
)

specs_refused : (bytes : List ℕ) (start at : ℕ) (f : AbbrevFault) → specs_of bytes start at ≡ Err f
    → NoPairs bytes start at f
specs_refused bytes start at f e =
    let p = first_fault (step bytes start) (λ (place : ℕ). AbbrevTruncated start) (length bytes)
    (λ at next seen o e. spec_found bytes start at next o e)
    (λ at seen le. spec_out bytes start at le) (length bytes) at [] f (omega arith) e in
    (p.0, p.1, pairs_follow bytes start at p.1 [] p.0 p.2, spec_refused bytes start p.1 f p.3)

specs_fail : (bytes : List ℕ) (start at : ℕ) (f : AbbrevFault) → NoPairs bytes start at f
    → specs_of bytes start at ≡ Err f
specs_fail bytes start at f h =
    fault_first (step bytes start) (λ (place : ℕ). AbbrevTruncated start) (length bytes)
    (λ at next seen o e. spec_found bytes start at next o e)
    (λ at seen le. spec_out bytes start at le) h.0 (length bytes) at h.1 [] f (omega arith)
    (follow_pairs bytes start at h.1 [] h.0 h.2) (spec_fails bytes start h.1 f h.3)

-- the children byte
same_fault : {A : Type 0} (a b : AbbrevFault)
    → ◌≡◌ {A = Result A AbbrevFault} (Err a) (Err b) → b ≡ a
same_fault a b e = cc

flag_refused : (bytes : List ℕ) (start at : ℕ) (o : Option ℕ) (f : AbbrevFault)
    → slice_get bytes at ≡ o → flag_from start at o ≡ Err f → NoChildren bytes start at f
flag_refused bytes start at None f h e =
    inl (h, same_fault {A = Bool × ℕ} (AbbrevTruncated start) f e)
flag_refused bytes start at (Some b) f h e = by (nat_lt 1 b) refl e
  where
    by : (t : Bool) → nat_lt 1 b ≡ t → ◌≡◌ {A = Result (Bool × ℕ) AbbrevFault} (if t
        then Err (ChildrenByte at b) else Ok (b == 1, at + 1)) (Err f) → NoChildren bytes start at f
    by true t e = inr (b, h, ltb-true 1 b t, same_fault {A = Bool × ℕ} (ChildrenByte at b) f e)
    by false t e = cc

flag_fails : (bytes : List ℕ) (start at : ℕ) (f : AbbrevFault) → NoChildren bytes start at f
    → flag_at bytes start at ≡ Err f
flag_fails bytes start at f (inl h) =
    ap (flag_from start at) h.0 ∙ ap (λ (g : AbbrevFault). Err g) (sym h.1)
flag_fails bytes start at f (inr h) =
    ap (flag_from start at) h.1 ∙ ap (λ (t : Bool). if t then Err (ChildrenByte at h.0)
    else Ok (h.0 == 1, at + 1)) (lt-ltb 1 h.0 h.2) ∙ ap (λ (g : AbbrevFault). Err g) (sym h.3)

-- what follows the tag
rest_refused : (bytes : List ℕ) (start code tag at : ℕ) (f : AbbrevFault) → (flag_at bytes start at
    >>= after_children bytes start code tag) ≡ Err f → NoRest bytes start at f
rest_refused bytes start code tag at f e =
    by (bind_err (flag_at bytes start at) (after_children bytes start code tag) f e)
  where
    pairs : (children : Bool) (k : ℕ) → (specs_of bytes start k ≡ Err f) ⊎ ((x : List Spec × ℕ)
        × (specs_of bytes start k ≡ Ok x) × (◌≡◌ {A = Result (Option Declaration × ℕ) AbbrevFault}
        (Ok (Some (made code tag children x.0), x.1)) (Err f))) → NoPairs bytes start k f
    pairs children k (inl h) = specs_refused bytes start k f h
    pairs children k (inr h) = absurd (never h.0 h.2)
      where
        never : (x : List Spec × ℕ) → ◌≡◌ {A = Result (Option Declaration × ℕ) AbbrevFault}
            (Ok (Some (made code tag children x.0), x.1)) (Err f) → ⊥
        never x e = cc

    by : (flag_at bytes start at ≡ Err f) ⊎ ((x : Bool × ℕ) × (flag_at bytes start at ≡ Ok x)
        × (after_children bytes start code tag x ≡ Err f)) → NoRest bytes start at f
    by (inl h) = inl (flag_refused bytes start at (slice_get bytes at) f refl h)
    by (inr h) =
        let p = flag_is bytes start at h.0.0 h.0.1 h.1 in
        inr (
          h.0.0,
          p.0,
          subst (λ (k : ℕ). NoPairs bytes start k f) p.1
              (pairs h.0.0 h.0.1 (bind_err (specs_of bytes start h.0.1)
              (λ (specs : List Spec × ℕ). Ok (Some (made code tag h.0.0 specs.0), specs.1)) f h.2)),
        )

rest_fails : (bytes : List ℕ) (start code tag at : ℕ) (f : AbbrevFault) → NoRest bytes start at f
    → (flag_at bytes start at >>= after_children bytes start code tag) ≡ Err f
rest_fails bytes start code tag at f (inl h) = bind_fails (flag_at bytes start at)
    (after_children bytes start code tag) f (flag_fails bytes start at f h)
rest_fails bytes start code tag at f (inr h) =
    bind_gives (flag_at bytes start at) (after_children bytes start code tag) (h.0, at + 1)
    (flag_read bytes start at h.0 h.1)
    ∙ bind_fails (specs_of bytes start (at + 1)) (λ (specs : List Spec × ℕ).
    Ok (Some (made code tag h.0 specs.0), specs.1)) f (specs_fail bytes start (at + 1) f h.2)

-- what follows the code
tag_refused : (bytes : List ℕ) (start : ℕ) (code : ℕ × ℕ) (f : AbbrevFault)
    → after_code bytes start code ≡ Err f → NoTag bytes start code.1 f
tag_refused bytes start code f e =
    by (bind_err (number_at bytes start code.1) (after_tag bytes start code.0) f e)
  where
    by : (number_at bytes start code.1 ≡ Err f) ⊎ ((x : ℕ × ℕ) × (number_at bytes start code.1
        ≡ Ok x) × (after_tag bytes start code.0 x ≡ Err f)) → NoTag bytes start code.1 f
    by (inl h) = inl (leb_fault start code.1 (uleb_of bytes code.1) f h)
    by (inr h) = inr (
      h.0.0,
      h.0.1,
      number_is bytes start code.1 h.0 h.1,
      rest_refused bytes start code.0 h.0.0 h.0.1 f h.2,
    )

tag_fails : (bytes : List ℕ) (start : ℕ) (code : ℕ × ℕ) (f : AbbrevFault)
    → NoTag bytes start code.1 f → after_code bytes start code ≡ Err f
tag_fails bytes start code f (inl h) = bind_fails (number_at bytes start code.1)
    (after_tag bytes start code.0) f (leb_fails start code.1 (uleb_of bytes code.1) f h)
tag_fails bytes start code f (inr h) =
    bind_gives (number_at bytes start code.1) (after_tag bytes start code.0) (h.0, h.1)
    (number_gives bytes start code.1 h.0 h.1 h.2) ∙ rest_fails bytes start code.0 h.0 h.1 f h.3

twice_refused : (bytes : List ℕ) (start : ℕ) (seen : List Declaration) (code : ℕ × ℕ)
    (f : AbbrevFault) (o : Option ℕ) → place_of code.0 seen ≡ o
    → after_new bytes start code (is_some o) ≡ Err f → IsTwice bytes start seen code.0 code.1 f
twice_refused bytes start seen code f None o e =
    inr (none_new code.0 seen o, tag_refused bytes start code f e)
twice_refused bytes start seen code f (Some i) o e =
    inl (
      λ (n : IsNew code.0 seen). never i (sym o ∙ new_none code.0 seen n),
      same_fault {A = Option Declaration × ℕ} (AbbrevTwice start code.0) f e,
    )
  where
    never : (i : ℕ) → ◌≡◌ {A = Option ℕ} (Some i) None → ⊥
    never i e = cc

twice_test : (bytes : List ℕ) (start : ℕ) (seen : List Declaration) (code : ℕ × ℕ) (f : AbbrevFault)
    (o : Option ℕ) → place_of code.0 seen ≡ o → IsTwice bytes start seen code.0 code.1 f
    → after_new bytes start code (is_some o) ≡ Err f
twice_test bytes start seen code f None o (inl h) = absurd (h.0 (none_new code.0 seen o))
twice_test bytes start seen code f (Some i) o (inl h) = ap (λ (g : AbbrevFault). Err g) (sym h.1)
twice_test bytes start seen code f None o (inr h) = tag_fails bytes start code f h.1
twice_test bytes start seen code f (Some i) o (inr h) =
    absurd (never i (sym o ∙ new_none code.0 seen h.0))
  where
    never : (i : ℕ) → ◌≡◌ {A = Option ℕ} (Some i) None → ⊥
    never i e = cc

code_test : (bytes : List ℕ) (start : ℕ) (seen : List Declaration) (code : ℕ × ℕ) (f : AbbrevFault)
    (t : Bool) → (code.0 == 0) ≡ t
    → (if t then Ok (None, code.1) else after_new bytes start code (is_some (place_of code.0 seen)))
    ≡ Err f → (code.0 ≢ 0) × IsTwice bytes start seen code.0 code.1 f
code_test bytes start seen code f true t e = cc
code_test bytes start seen code f false t e =
    (eqb-false code.0 0 t, twice_refused bytes start seen code f (place_of code.0 seen) refl e)

declaration_refused : (bytes : List ℕ) (at : ℕ) (seen : List Declaration) (f : AbbrevFault)
    → declaration_at bytes at seen ≡ Err f → NoDeclaration bytes at seen f
unfolding declaration_at
declaration_refused bytes at seen f e =
    by (bind_err (number_at bytes at at) (after_start bytes at seen) f e)
  where
    by : (number_at bytes at at ≡ Err f) ⊎ ((x : ℕ × ℕ) × (number_at bytes at at ≡ Ok x)
        × (after_start bytes at seen x ≡ Err f)) → NoDeclaration bytes at seen f
    by (inl h) = inl (leb_fault at at (uleb_of bytes at) f h)
    by (inr h) = let p = code_test bytes at seen h.0 f (h.0.0 == 0) refl h.2 in
        inr (h.0.0, h.0.1, number_is bytes at at h.0 h.1, p.0, p.1)

declaration_fails : (bytes : List ℕ) (at : ℕ) (seen : List Declaration) (f : AbbrevFault)
    → NoDeclaration bytes at seen f → declaration_at bytes at seen ≡ Err f
unfolding declaration_at
declaration_fails bytes at seen f (inl h) = bind_fails (number_at bytes at at)
    (after_start bytes at seen) f (leb_fails at at (uleb_of bytes at) f h)
declaration_fails bytes at seen f (inr h) =
    let zero : (h.0 == 0) ≡ false = ne_eqb h.0 0 h.3 in
    bind_gives (number_at bytes at at) (after_start bytes at seen) (h.0, h.1)
    (number_gives bytes at at h.0 h.1 h.2)
    ∙ ap (λ (t : Bool). if t then Ok (None, h.1)
    else after_new bytes at (h.0, h.1) (is_some (place_of h.0 seen))) zero
    ∙ twice_test bytes at seen (h.0, h.1) f (place_of h.0 seen) refl h.4

-- whole abbreviations
declarations_follow : (bytes : List ℕ) (at mid : ℕ) (seen ds : List Declaration)
    → Follows (declaration_at bytes) AbbrevTruncated at seen ds mid
    → AreDeclarations bytes at ds mid × AreNew seen ds
declarations_follow bytes at mid seen [] h = (h, tt)
declarations_follow bytes at mid seen (d ∷ ds) h =
    let f = (declaration_is bytes at h.0 seen (Some d) h.1).declaration d refl in
    let i = declarations_follow bytes h.0 mid (seen ++ d ∷ []) ds h.2 in
    let n = all_left seen d ds i.1 in
    ((h.0, f.0, n.1, i.0), (f.1, n.0))

follow_declarations : (bytes : List ℕ) (at mid : ℕ) (seen ds : List Declaration) → AreDeclarations
    bytes at ds mid → AreNew seen ds → Follows (declaration_at bytes) AbbrevTruncated at seen ds mid
follow_declarations bytes at mid seen [] h n = h
follow_declarations bytes at mid seen (d ∷ ds) h n = (
  h.0,
  declaration_read bytes at h.0 seen d h.1
      n.0,
  follow_declarations bytes h.0 mid (seen ++ d ∷ []) ds h.3 (all_right seen d ds n.1 h.2),
)

pub refused : (bytes : List ℕ) (at : ℕ) (f : AbbrevFault) → table_at bytes at ≡ Err f
    → IsRefused bytes at f
unfolding table_at
refused bytes at f e = by (bind_err (collect (declaration_at bytes) AbbrevTruncated
    (length bytes) at []) (λ (x : List Declaration × ℕ). Ok x.0) f e)
  where
    by : (collect (declaration_at bytes) AbbrevTruncated (length bytes) at [] ≡ Err f)
        ⊎ ((x : List Declaration × ℕ)
        × (collect (declaration_at bytes) AbbrevTruncated (length bytes) at [] ≡ Ok x)
        × (◌≡◌ {A = Result (List Declaration) AbbrevFault} (Ok x.0) (Err f))) → IsRefused bytes at f
    by (inl h) =
        let p = first_fault (declaration_at bytes) AbbrevTruncated (length bytes)
        (λ at next seen o e. declaration_goes bytes at next seen o e) (λ at seen le.
        declaration_out bytes at seen le) (length bytes) at [] f (omega arith) h in (
          p.0,
          p.1,
          (declarations_follow bytes at p.1 [] p.0 p.2).0,
          declaration_refused bytes p.1 p.0 f p.3,
        )
    by (inr h) = absurd (never h.0 h.2)
      where
        never : (x : List Declaration × ℕ)
            → ◌≡◌ {A = Result (List Declaration) AbbrevFault} (Ok x.0) (Err f) → ⊥
        never x e = cc

pub fails : (bytes : List ℕ) (at : ℕ) (f : AbbrevFault) → IsRefused bytes at f
    → table_at bytes at ≡ Err f
unfolding table_at
fails bytes at f h =
    let c = fault_first (declaration_at bytes) AbbrevTruncated (length bytes)
    (λ at next seen o e. declaration_goes bytes at next seen o e) (λ at seen le.
    declaration_out bytes at seen le) h.0 (length bytes) at h.1 [] f (omega arith)
    (follow_declarations bytes at h.1 [] h.0 h.2 (none_seen h.0))
    (declaration_fails bytes h.1 h.0 f h.3) in
    bind_fails (collect (declaration_at bytes) AbbrevTruncated (length bytes) at [])
    (λ (x : List Declaration × ℕ). Ok x.0) f c

-- in the standard's words
pub reads : (bytes : List ℕ) (at : ℕ) (r : Result (List Declaration) AbbrevFault)
    → Gives (λ (t : List Declaration). t) r (table_at bytes at) → Reads bytes at r
reads bytes at (Ok t) h = read bytes at t h
reads bytes at (Err Memory) h = tt
reads bytes at (Err (AbbrevTruncated a)) h = refused bytes at (AbbrevTruncated a) h
reads bytes at (Err (AbbrevTwice a b)) h = refused bytes at (AbbrevTwice a b) h
reads bytes at (Err (LebWide a)) h = refused bytes at (LebWide a) h
reads bytes at (Err (ChildrenByte a b)) h = refused bytes at (ChildrenByte a b) h
