-- Offsets in a table of names.
use Rattle.std.proofs.Common.{◌≡◌, ℕ, ◌+◌, ◌<◌, true, List, [], ◌∷◌, ◌++◌, length, slice_get}
use Rattle.std.proofs.Common.{Option, None, Some, IfSome, refl, sym, ap, ◌∙◌, arith, append_assoc}
use Rattle.std.specs.List.{flat_map}
use Rattle.std.specs.Option.{option_or}
use Rattle.std.proofs.lemmas.Bool.{and_parts}
use Rattle.std.proofs.lemmas.List.{length-append}
use Rattle.dw_base.specs.Texts.{text_from, text_of, HasNoNul}
use Rattle.dw_base.proofs.Texts.{bytes_eq_same}
use Rattle.btf_strings.specs.Names.{Names, all_strings, base_offset, base_section}
use Rattle.btf_strings.specs.Names.{begins_string, first_offset, first_string, is_text, next_offset}
use Rattle.btf_strings.specs.Names.{offset_among, offset_of, own_section, stands_whole, with_nul}
use Rattle.btf_strings.specs.Kept.{IsSection}
use Rattle.btf_strings.proofs.Among.{found_last, found_still, text_among}
use Rattle.btf_strings.proofs.Least.{least_passes}
use Rattle.btf_strings.proofs.Texts.{text_of_more}

pub empty_offset : (t : Names) (name : List ℕ) → name ≡ [] → offset_of t name ≡ Some 0
unfolding offset_of
empty_offset t name e = ap (λ (n : List ℕ). offset_of t n) e

-- a name of some bytes stands in the base or has an own place
pub offset_is : (t : Names) (name : List ℕ) → 0 < length name → offset_of t name
    ≡ option_or (base_offset t.base name) (offset_among (first_offset t.base) t.own name)
unfolding offset_of
offset_is t [] lt = absurd (omega arith)
offset_is t (b ∷ bs) lt = refl

-- without an offset it is neither
neither : (a b : Option ℕ) → option_or a b ≡ None → (a ≡ None) × (b ≡ None)
neither None b e = (refl, e)
neither (Some x) b e = cc

pub record IsAbsent (t : Names) (name : List ℕ) : Type 0 where
  pub some : 0 < length name
  pub base : base_offset t.base name ≡ None
  pub own : offset_among (first_offset t.base) t.own name ≡ None

pub absent : (t : Names) (name : List ℕ) → offset_of t name ≡ None → IsAbsent t name
unfolding offset_of
absent t [] e = cc
absent t (b ∷ bs) e = let h =
    neither (base_offset t.base (b ∷ bs)) (offset_among (first_offset t.base) t.own (b ∷ bs)) e in
    record { some = omega arith; base = h.0; own = h.1 }

-- where the next name comes
pub next_is : (t : Names) → next_offset t ≡ first_offset t.base + length (flat_map with_nul t.own)
unfolding own_section
next_is t = omega (
  arith,
  length-append (base_section t.base) (first_string t.base
      ++ flat_map with_nul t.own),
  length-append (first_string t.base) (flat_map with_nul t.own),
)

-- an appended name has the place where it was appended
pub offset_appended : (t : Names) (name : List ℕ) → offset_of t name ≡ None
    → offset_of (record t { own = t.own ++ name ∷ [] }) name ≡ Some (next_offset t)
offset_appended t name e =
    let h = absent t name e in
    let b : base_offset t.base name ≡ None = h.base in
    offset_is (record t { own = t.own ++ name ∷ [] }) name h.some
    ∙ rw b (found_last (first_offset t.base) t.own name h.own
    ∙ ap (λ (n : ℕ). Some n) (sym (next_is t)))

-- a name with an offset keeps it
kept_or : (a b more : Option ℕ) (k : ℕ) → (b ≡ Some k → more ≡ Some k) → option_or a b ≡ Some k
    → option_or a more ≡ Some k
kept_or None b more k h e = h e
kept_or (Some x) b more k h e = e

pub offset_kept : (t : Names) (name other : List ℕ) (k : ℕ) → offset_of t other ≡ Some k
    → offset_of (record t { own = t.own ++ name ∷ [] }) other ≡ Some k
unfolding offset_of
offset_kept t name [] k e = e
offset_kept t name (b ∷ bs) k e =
    kept_or (base_offset t.base (b ∷ bs)) (offset_among (first_offset t.base) t.own (b ∷ bs))
    (offset_among (first_offset t.base) (t.own ++ name ∷ []) (b ∷ bs)) k
    (λ (h : offset_among (first_offset t.base) t.own (b ∷ bs) ≡ Some k).
    found_still (first_offset t.base) t.own (b ∷ bs) name k h) e

-- the text at an offset
nul_first : (section more : List ℕ) → slice_get section 0 ≡ Some 0
    → text_of (section ++ more) 0 ≡ Some []
unfolding text_of text_from
nul_first [] more e = cc
nul_first (b ∷ bs) more e = let z : b ≡ 0 = cc in rw z refl

empty_text : (base : Option (List ℕ)) (own : List (List ℕ)) → IfSome base IsSection
    → text_of (all_strings (record { base = base; own = own })) 0 ≡ Some []
unfolding own_section text_of text_from
empty_text None own h = refl
empty_text (Some section) own h =
    nul_first section (own_section (record { base = Some section; own = own })) h.empty

text_same : (name : List ℕ) (o : Option (List ℕ)) → is_text name o ≡ true → o ≡ Some name
text_same name None e = cc
text_same name (Some text) e = ap (λ (n : List ℕ). Some n) (sym (bytes_eq_same name text e))

base_text : (base : Option (List ℕ)) (name more : List ℕ) (at : ℕ) → base_offset base name ≡ Some at
    → text_of (base_section base ++ more) at ≡ Some name
base_text None name more at e = cc
base_text (Some section) name more at e =
    let h = least_passes (stands_whole section name) (length section) at e in
    let p = and_parts (begins_string section at) (is_text name (text_of section at)) h.0 in
    text_of_more section more at name (text_same name (text_of section at) p.1)

own_text : (t : Names) (name : List ℕ) (at : ℕ) → HasNoNul name → offset_among
    (first_offset t.base) t.own name ≡ Some at → text_of (all_strings t) at ≡ Some name
unfolding own_section
own_text t name at clean e =
    ap (λ (xs : List ℕ). text_of xs at)
    (sym (append_assoc (base_section t.base) (first_string t.base) (flat_map with_nul t.own)))
    ∙ text_among (base_section t.base ++ first_string t.base) t.own name at (first_offset t.base)
    clean (sym (length-append (base_section t.base) (first_string t.base))) e

some_text : (t : Names) (name : List ℕ) (at : ℕ) (o : Option ℕ) → HasNoNul name
    → base_offset t.base name ≡ o → option_or o (offset_among (first_offset t.base) t.own name)
    ≡ Some at → text_of (all_strings t) at ≡ Some name
some_text t name at None clean is e = own_text t name at clean e
some_text t name at (Some x) clean is e = base_text t.base name (own_section t) at (is ∙ e)

pub text_at_offset : (t : Names) (name : List ℕ) (at : ℕ) → IfSome t.base IsSection → HasNoNul name
    → offset_of t name ≡ Some at → text_of (all_strings t) at ≡ Some name
unfolding offset_of
text_at_offset t [] at section clean e = ap (λ (n : ℕ). text_of (all_strings t) n)
    (let z : at ≡ 0 = cc in z) ∙ empty_text t.base t.own section
text_at_offset t (b ∷ bs) at section clean e =
    some_text t (b ∷ bs) at (base_offset t.base (b ∷ bs)) clean refl e

pub text_if_some : (t : Names) (name : List ℕ) (o : Option ℕ) → IfSome t.base IsSection
    → o ≡ offset_of t name → HasNoNul name
    → IfSome o (λ (at : ℕ). text_of (all_strings t) at ≡ Some name)
text_if_some t name None section e clean = tt
text_if_some t name (Some at) section e clean = text_at_offset t name at section clean (sym e)
