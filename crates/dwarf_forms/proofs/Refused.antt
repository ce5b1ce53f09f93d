-- A value is refused for the first piece of it that can't be read.
use Rattle.std.proofs.Common.{◌≡◌, ℕ, ◌+◌, ◌<◌, ◌==◌, ◌||◌, ◌^◌, ℤ, Bool, true, false, List, []}
use Rattle.std.proofs.Common.{◌∷◌, length, take, drop, nat_le, nat_lt, Option, None, Some, Result}
use Rattle.std.proofs.Common.{Ok, Err, if◌then◌else◌, refl, sym, ap, subst, ◌∙◌, inl, inr}
use Rattle.std.specs.Prelude.{not, ◌⊎◌}
use Rattle.std.specs.Option.{option_map}
use Rattle.std.proofs.lemmas.Bool.{eq-eqb, ne_eqb, eqb-true, eqb-false, leb-false, lt-leb}
use Rattle.std.proofs.lemmas.Bool.{ltb-false, le-ltb}
use Rattle.dw_base.specs.Leb128.{leb_bytes, uleb_of, sleb_of, unsigned_of, unsigned_at, signed_of}
use Rattle.dw_base.specs.Leb128.{signed_at, fits_i64}
use Rattle.dw_base.specs.Numbers.{number_of, ordered}
use Rattle.dw_base.specs.Texts.{text_from, text_of}
use Rattle.dw_base.specs.declared.numbers.Order.{Order}
use Rattle.dw_base.specs.declared.leb128.LebFault.TheVariants.{TooWide}
use Rattle.dw_base.proofs.Numbering.{is_out}
use Rattle.dwarf_abbrev.specs.declared.constants.TheConstants.{DW_FORM_implicit_const}
use Rattle.dwarf_abbrev.specs.declared.constants.TheConstants.{DW_FORM_indirect}
use Rattle.dwarf_abbrev.specs.declared.spec.Spec.{Spec}
use Rattle.dwarf_forms.specs.declared.fault.FormFault.{FormFault}
use Rattle.dwarf_forms.specs.declared.fault.FormFault.TheVariants.{FormUnknown, LebWide}
use Rattle.dwarf_forms.specs.declared.fault.FormFault.TheVariants.{ValueTruncated}
use Rattle.dwarf_forms.specs.declared.layout.FormLayout.{FormLayout}
use Rattle.dwarf_forms.specs.declared.layout.FormLayout.TheVariants as layouts
use Rattle.dwarf_forms.specs.declared.layout.BlockClass.{BlockClass}
use Rattle.dwarf_forms.specs.Forms.{layout_of, HasWidth, HasWidths}
use Rattle.dwarf_forms.specs.Values.{◌>>=◌, Plain, Shown, Within, or_cut, of_leb, or_unknown}
use Rattle.dwarf_forms.specs.Values.{fixed_at, uleb_at, sleb_at, bytes_at, text_at, read_at, form_at}
use Rattle.dwarf_forms.specs.Values.{value_of}
use Rattle.dwarf_forms.specs.Values.Plain.{number, signed, bytes, sixteen, text, flag, elsewhere}
use Rattle.dwarf_forms.specs.Standard.{HasNoNul}
use Rattle.dwarf_forms.specs.Refusals.{NoBytes, NoText, NeverEnds, AreDigits, NoNumber, NoSigned}
use Rattle.dwarf_forms.specs.Refusals.{IsNumber, Lacks, NoneOfForm, NoneNamed, IsRefused}
use Rattle.dwarf_forms.proofs.Pieces.{leb_is, digits_at, uleb_is}
use Rattle.dwarf_forms.proofs.Spelled.{bind_gives, fixed_is, fixed_gives, uleb_at_is, uleb_at_gives}
use Rattle.dwarf_forms.proofs.Spelled.{form_is, form_gives, made_from, after_form, named_form}
use Rattle.dwarf_forms.proofs.Spelled.{shown_as, unknown_found}
use Rattle.dwarf_forms.proofs.Widths.{has_widths}

-- faults of steps
pub same_fault : {A : Type 0} (a b : FormFault)
    → ◌≡◌ {A = Result A FormFault} (Err a) (Err b) → a ≡ b
same_fault a b e = cc

pub never : {A : Type 0} {P : Type 0} (x : A) (f : FormFault)
    → ◌≡◌ {A = Result A FormFault} (Ok x) (Err f) → P
never x f e = cc

bind_err : {A B : Type 0} (r : Result A FormFault) (g : A → Result B FormFault) (f : FormFault)
    → (r >>= g) ≡ Err f → (r ≡ Err f) ⊎ ((x : A) × (r ≡ Ok x) × (g x ≡ Err f))
bind_err {A} {B} (Err d) g f e = let q : d ≡ f = same_fault {A = B} d f e in
    inl (ap (λ (d : FormFault). Err d) q)
bind_err (Ok x) g f e = inr (x, refl, e)

bind_fails : {A B : Type 0} (r : Result A FormFault) (g : A → Result B FormFault) (f : FormFault)
    → r ≡ Err f → (r >>= g) ≡ Err f
bind_fails r g f e = rw e refl

-- what is only carried on
carried : {A : Type 0} (r : Result (A × ℕ) FormFault) (g : A → Plain) (f : FormFault)
    → (r >>= made_from g) ≡ Err f → r ≡ Err f
carried {A} (Err d) g f e = let q : d ≡ f = same_fault {A = Plain × ℕ} d f e in
    ap (λ (d : FormFault). Err d) q
carried (Ok x) g f e = never (g x.0, x.1) f e

cut_err : {A B : Type 0} (attribute : ℕ) (o : Option A) (g : A → Result B FormFault) (f : FormFault)
    → ((x : A) → g x ≡ Err f → ⊥) → (or_cut attribute o >>= g) ≡ Err f
    → (o ≡ None) × (f ≡ ValueTruncated attribute)
cut_err {A} {B} attribute None g f h e =
    (refl, sym (same_fault {A = B} (ValueTruncated attribute) f e))
cut_err attribute (Some x) g f h e = absurd (h x e)

-- bytes of a number of a width
number_test : (unit : List ℕ) (at w : ℕ) (order : Order) (t : Bool) → nat_le (at + w) (length unit)
    ≡ t → (if t then Some (ordered order (take w (drop at unit))) else None) ≡ None
    → length unit < at + w
number_test unit at w order true t e = absurd (cc)
number_test unit at w order false t e = leb-false (at + w) (length unit) t

number_none : (unit : List ℕ) (at w : ℕ) (order : Order) → number_of unit at w order ≡ None
    → length unit < at + w
unfolding number_of
number_none unit at w order e = number_test unit at w order (nat_le (at + w) (length unit)) refl e

fixed_err : (unit : List ℕ) (at w : ℕ) (order : Order) (attribute : ℕ) (f : FormFault)
    → fixed_at unit at w order attribute ≡ Err f → NoBytes unit attribute at w f
unfolding fixed_at
fixed_err unit at w order attribute f e =
    let c = cut_err attribute (number_of unit at w order) (λ (n : ℕ). Ok (n, at + w)) f
    (λ (n : ℕ) (h : ◌≡◌ {A = Result (ℕ × ℕ) FormFault} (Ok (n, at + w)) (Err f)).
    never (n, at + w) f h) e in
    (number_none unit at w order c.0, c.1)

fixed_out : (unit : List ℕ) (at w : ℕ) (order : Order) (attribute : ℕ) (f : FormFault)
    → NoBytes unit attribute at w f → fixed_at unit at w order attribute ≡ Err f
unfolding fixed_at
fixed_out unit at w order attribute f n =
    rw (is_out unit at w order n.0) (ap (λ (f : FormFault). Err f) (sym n.1))

-- counted bytes
bytes_test : (unit : List ℕ) (at count attribute : ℕ) (f : FormFault) (t : Bool)
    → nat_le (at + count) (length unit) ≡ t → ◌≡◌ {A = Result (List ℕ × ℕ) FormFault} (if t
    then Ok (take count (drop at unit), at + count) else Err (ValueTruncated attribute)) (Err f)
    → NoBytes unit attribute at count f
bytes_test unit at count attribute f true t e = never (take count (drop at unit), at + count) f e
bytes_test unit at count attribute f false t e = (
  leb-false (at + count) (length unit) t,
  sym (same_fault {A = List ℕ × ℕ} (ValueTruncated attribute) f e),
)

bytes_err : (unit : List ℕ) (at count attribute : ℕ) (f : FormFault)
    → bytes_at unit at count attribute ≡ Err f → NoBytes unit attribute at count f
unfolding bytes_at
bytes_err unit at count attribute f e =
    bytes_test unit at count attribute f (nat_le (at + count) (length unit)) refl e

bytes_out : (unit : List ℕ) (at count attribute : ℕ) (f : FormFault)
    → NoBytes unit attribute at count f → bytes_at unit at count attribute ≡ Err f
unfolding bytes_at
bytes_out unit at count attribute f n =
    rw (lt-leb (at + count) (length unit) n.0) (ap (λ (f : FormFault). Err f) (sym n.1))

-- texts
nul_first : (b : ℕ) (bs : List ℕ) (t : Bool) (o : Option (List ℕ)) → (b == 0) ≡ t
    → (o ≡ None → HasNoNul bs)
    → (if t then Some [] else option_map (λ (rest : List ℕ). b ∷ rest) o) ≡ None → HasNoNul (b ∷ bs)
nul_first b bs true o t ih e = absurd (cc)
nul_first b bs false None t ih e = (eqb-false b 0 t, ih refl)
nul_first b bs false (Some u) t ih e = absurd (cc)

text_none : (xs : List ℕ) → text_from xs ≡ None → HasNoNul xs
unfolding text_from
text_none [] e = tt
text_none (b ∷ bs) e =
    nul_first b bs (b == 0) (text_from bs) refl (λ (h : text_from bs ≡ None). text_none bs h) e

text_never : (xs : List ℕ) → HasNoNul xs → text_from xs ≡ None
unfolding text_from
text_never [] h = refl
text_never (b ∷ bs) h = rw (ne_eqb b 0 h.0, text_never bs h.1) refl

text_err : (unit : List ℕ) (at attribute : ℕ) (f : FormFault) → text_at unit at attribute ≡ Err f
    → NoText unit attribute at f
unfolding text_at text_of
text_err unit at attribute f e =
    let c = cut_err attribute (text_of unit at) (λ (t : List ℕ). Ok (t, at + length t + 1)) f
    (λ (t : List ℕ) (h : ◌≡◌ {A = Result (List ℕ × ℕ) FormFault} (Ok (t, at + length t + 1))
    (Err f)). never (t, at + length t + 1) f h) e in
    (text_none (drop at unit) c.0, c.1)

text_out : (unit : List ℕ) (at attribute : ℕ) (f : FormFault) → NoText unit attribute at f
    → text_at unit at attribute ≡ Err f
unfolding text_at text_of
text_out unit at attribute f n =
    rw (text_never (drop at unit) n.0) (ap (λ (f : FormFault). Err f) (sym n.1))

-- LEB128 numbers
leb_first : (b : ℕ) (bs : List ℕ) (t : Bool) (o : Option (List ℕ)) → nat_lt b 128 ≡ t
    → (o ≡ None → NeverEnds bs) → (if t then Some (b ∷ [])
    else option_map (λ (rest : List ℕ). b ∷ rest) o) ≡ None → NeverEnds (b ∷ bs)
leb_first b bs true o t ih e = absurd (cc)
leb_first b bs false None t ih e = (ltb-false b 128 t, ih refl)
leb_first b bs false (Some es) t ih e = absurd (cc)

leb_none : (xs : List ℕ) → leb_bytes xs ≡ None → NeverEnds xs
unfolding leb_bytes
leb_none [] e = tt
leb_none (b ∷ bs) e =
    leb_first b bs (nat_lt b 128) (leb_bytes bs) refl (λ (h : leb_bytes bs ≡ None). leb_none bs h) e

leb_never : (xs : List ℕ) → NeverEnds xs → leb_bytes xs ≡ None
unfolding leb_bytes
leb_never [] h = refl
leb_never (b ∷ bs) h = rw (le-ltb b 128 h.0, leb_never bs h.1) refl

digits_there : (unit : List ℕ) (at : ℕ) (ds : List ℕ) → leb_bytes (drop at unit) ≡ Some ds
    → AreDigits unit at ds (at + length ds)
digits_there unit at ds h = let l = leb_is (drop at unit) ds h in ((l.0, l.1, refl), l.2)

wide_test : (unit : List ℕ) (at attribute : ℕ) (f : FormFault) (ds : List ℕ) (t : Bool)
    → leb_bytes (drop at unit) ≡ Some ds → nat_lt (unsigned_of ds) (2 ^ 64) ≡ t
    → of_leb {A = ℕ × ℕ} at attribute (if t then Ok (unsigned_of ds, at + length ds)
    else Err TooWide) ≡ Err f → NoNumber unit attribute at f
wide_test unit at attribute f ds true h t e = never (unsigned_of ds, at + length ds) f e
wide_test unit at attribute f ds false h t e = inr (
  ds,
  at + length ds,
  digits_there unit at ds h,
  ltb-false (unsigned_of ds) (2 ^ 64) t,
  sym (same_fault {A = ℕ × ℕ} (LebWide at) f e),
)

unsigned_err : (unit : List ℕ) (at attribute : ℕ) (f : FormFault) (o : Option (List ℕ))
    → leb_bytes (drop at unit) ≡ o → of_leb at attribute (unsigned_at at o) ≡ Err f
    → NoNumber unit attribute at f
unsigned_err unit at attribute f None h e =
    inl (leb_none (drop at unit) h, sym (same_fault {A = ℕ × ℕ} (ValueTruncated attribute) f e))
unsigned_err unit at attribute f (Some ds) h e =
    wide_test unit at attribute f ds (nat_lt (unsigned_of ds) (2 ^ 64)) h refl e

pub uleb_err : (unit : List ℕ) (at attribute : ℕ) (f : FormFault)
    → uleb_at unit at attribute ≡ Err f → NoNumber unit attribute at f
unfolding uleb_at uleb_of
uleb_err unit at attribute f e = unsigned_err unit at attribute f (leb_bytes (drop at unit)) refl e

pub uleb_out : (unit : List ℕ) (at attribute : ℕ) (f : FormFault) → NoNumber unit attribute at f
    → uleb_at unit at attribute ≡ Err f
unfolding uleb_at uleb_of
uleb_out unit at attribute f (inl n) =
    rw (leb_never (drop at unit) n.0) (ap (λ (f : FormFault). Err f) (sym n.1))
uleb_out unit at attribute f (inr n) = rw (
  digits_at unit at n.1 n.0 n.2.0 n.2.1,
  le-ltb (unsigned_of n.0) (2 ^ 64) n.3,
) (ap (λ (f : FormFault). Err f) (sym n.4))

wide_signed : (unit : List ℕ) (at attribute : ℕ) (f : FormFault) (ds : List ℕ) (t : Bool)
    → leb_bytes (drop at unit) ≡ Some ds → fits_i64 (signed_of ds) ≡ t
    → of_leb {A = ℤ × ℕ} at attribute (if t then Ok (signed_of ds, at + length ds)
    else Err TooWide) ≡ Err f → NoSigned unit attribute at f
wide_signed unit at attribute f ds true h t e = never (signed_of ds, at + length ds) f e
wide_signed unit at attribute f ds false h t e = inr (
  ds,
  at + length ds,
  digits_there unit at ds h,
  t,
  sym (same_fault {A = ℤ × ℕ} (LebWide at) f e),
)

signed_err : (unit : List ℕ) (at attribute : ℕ) (f : FormFault) (o : Option (List ℕ)) → leb_bytes
    (drop at unit) ≡ o → of_leb at attribute (signed_at at o) ≡ Err f → NoSigned unit attribute at f
signed_err unit at attribute f None h e =
    inl (leb_none (drop at unit) h, sym (same_fault {A = ℤ × ℕ} (ValueTruncated attribute) f e))
signed_err unit at attribute f (Some ds) h e =
    wide_signed unit at attribute f ds (fits_i64 (signed_of ds)) h refl e

sleb_err : (unit : List ℕ) (at attribute : ℕ) (f : FormFault) → sleb_at unit at attribute ≡ Err f
    → NoSigned unit attribute at f
unfolding sleb_at sleb_of
sleb_err unit at attribute f e = signed_err unit at attribute f (leb_bytes (drop at unit)) refl e

sleb_out : (unit : List ℕ) (at attribute : ℕ) (f : FormFault) → NoSigned unit attribute at f
    → sleb_at unit at attribute ≡ Err f
unfolding sleb_at sleb_of
sleb_out unit at attribute f (inl n) =
    rw (leb_never (drop at unit) n.0) (ap (λ (f : FormFault). Err f) (sym n.1))
sleb_out unit at attribute f (inr n) =
    rw (digits_at unit at n.1 n.0 n.2.0 n.2.1, n.3) (ap (λ (f : FormFault). Err f) (sym n.4))

-- the value of a layout
abbrev body : List ℕ → ℕ → BlockClass → ℕ × ℕ → Result (Plain × ℕ) FormFault
body unit attribute kind n =
    bytes_at unit n.1 n.0 attribute >>= λ (b : List ℕ × ℕ). Ok (bytes kind b.0, b.1)

body_err : (unit : List ℕ) (attribute : ℕ) (kind : BlockClass) (n : ℕ × ℕ) (f : FormFault)
    → body unit attribute kind n ≡ Err f → NoBytes unit attribute n.1 n.0 f
body_err unit attribute kind n f e = bytes_err unit n.1 n.0 attribute f
    (carried (bytes_at unit n.1 n.0 attribute) (λ (b : List ℕ). bytes kind b) f e)

body_out : (unit : List ℕ) (attribute : ℕ) (kind : BlockClass) (n : ℕ × ℕ) (f : FormFault)
    → NoBytes unit attribute n.1 n.0 f → body unit attribute kind n ≡ Err f
body_out unit attribute kind n f h = bind_fails (bytes_at unit n.1 n.0 attribute)
    (λ (b : List ℕ × ℕ). Ok (bytes kind b.0, b.1)) f (bytes_out unit n.1 n.0 attribute f h)

counted_err : (unit : List ℕ) (at w : ℕ) (kind : BlockClass) (order : Order) (attribute : ℕ)
    (f : FormFault)
    → (fixed_at unit at w order attribute ≡ Err f) ⊎ ((n : ℕ × ℕ)
    × (fixed_at unit at w order attribute ≡ Ok n) × (body unit attribute kind n ≡ Err f))
    → Lacks (layouts.Counted w kind) order unit attribute at f
counted_err unit at w kind order attribute f (inl h) = inl (fixed_err unit at w order attribute f h)
counted_err unit at w kind order attribute f (inr h) =
    let s = fixed_is unit at w order attribute h.0.0 h.0.1 h.1 in
    inr (
      s.0,
      h.0.1,
      s.1,
      s.2,
      subst
          (λ (k : ℕ). NoBytes unit attribute h.0.1 k f) s.3
          (body_err unit attribute kind h.0 f h.2),
    )

number_is : (unit : List ℕ) (at attribute n end : ℕ) → uleb_at unit at attribute ≡ Ok (n, end)
    → IsNumber unit at n end
number_is unit at attribute n end e =
    let d = uleb_is unit at n end (uleb_at_is unit at attribute n end e) in
    (d.digits, (d.stands, d.leb), d.fits, d.is)

number_gives : (unit : List ℕ) (at attribute n end : ℕ) → IsNumber unit at n end
    → uleb_at unit at attribute ≡ Ok (n, end)
number_gives unit at attribute n end i =
    uleb_at_gives unit at attribute end i.0 i.1.0 i.1.1 i.2 ∙ ap (λ (k : ℕ). Ok (k, end)) (sym i.3)

leb_counted_err : (unit : List ℕ) (at : ℕ) (kind : BlockClass) (order : Order) (attribute : ℕ)
    (f : FormFault)
    → (uleb_at unit at attribute ≡ Err f)
    ⊎ ((n : ℕ × ℕ) × (uleb_at unit at attribute ≡ Ok n) × (body unit attribute kind n ≡ Err f))
    → Lacks (layouts.LebCounted kind) order unit attribute at f
leb_counted_err unit at kind order attribute f (inl h) = inl (uleb_err unit at attribute f h)
leb_counted_err unit at kind order attribute f (inr h) = inr (
  h.0.0,
  h.0.1,
  number_is unit at attribute h.0.0 h.0.1 h.1,
  body_err unit attribute kind h.0 f h.2,
)

read_err : (l : FormLayout) (form : ℕ) (unit : List ℕ) (at : ℕ) (order : Order) (spec : Spec)
    (f : FormFault) → read_at l form unit at order spec ≡ Err f
    → Lacks l order unit spec.attribute at f
unfolding read_at
read_err (layouts.Fixed w kind) form unit at order spec f e =
    fixed_err unit at w order spec.attribute f
    (carried (fixed_at unit at w order spec.attribute) (λ (n : ℕ). number kind n) f e)
read_err (layouts.Leb kind) form unit at order spec f e = uleb_err unit at spec.attribute f
    (carried (uleb_at unit at spec.attribute) (λ (n : ℕ). number kind n) f e)
read_err layouts.Signed form unit at order spec f e = sleb_err unit at spec.attribute f
    (carried (sleb_at unit at spec.attribute) (λ (n : ℤ). signed n) f e)
read_err layouts.Implicit form unit at order spec f e = bytes_err unit at 0 spec.attribute f
    (carried (bytes_at unit at 0 spec.attribute) (λ (b : List ℕ). signed spec.implicit) f e)
read_err layouts.Flag form unit at order spec f e = fixed_err unit at 1 order spec.attribute f
    (carried (fixed_at unit at 1 order spec.attribute) (λ (n : ℕ). flag (not (n == 0))) f e)
read_err layouts.Present form unit at order spec f e = bytes_err unit at 0 spec.attribute f
    (carried (bytes_at unit at 0 spec.attribute) (λ (b : List ℕ). flag true) f e)
read_err layouts.Text form unit at order spec f e = text_err unit at spec.attribute f
    (carried (text_at unit at spec.attribute) (λ (t : List ℕ). text t) f e)
read_err layouts.Sixteen form unit at order spec f e = bytes_err unit at 16 spec.attribute f
    (carried (bytes_at unit at 16 spec.attribute) (λ (b : List ℕ). sixteen b) f e)
read_err (layouts.Counted w kind) form unit at order spec f e =
    counted_err unit at w kind order spec.attribute f
    (bind_err (fixed_at unit at w order spec.attribute) (body unit spec.attribute kind) f e)
read_err (layouts.LebCounted kind) form unit at order spec f e = leb_counted_err unit at kind order
    spec.attribute f (bind_err (uleb_at unit at spec.attribute) (body unit spec.attribute kind) f e)
read_err (layouts.Elsewhere w) form unit at order spec f e =
    fixed_err unit at w order spec.attribute f
    (carried (fixed_at unit at w order spec.attribute) (λ (n : ℕ). elsewhere form) f e)

read_out : (l : FormLayout) (form : ℕ) (unit : List ℕ) (at : ℕ) (order : Order) (spec : Spec)
    (f : FormFault) → HasWidths l → Lacks l order unit spec.attribute at f
    → read_at l form unit at order spec ≡ Err f
unfolding read_at
read_out (layouts.Fixed w kind) form unit at order spec f wide h =
    bind_fails (fixed_at unit at w order spec.attribute) (made_from (λ (n : ℕ). number kind n)) f
    (fixed_out unit at w order spec.attribute f h)
read_out (layouts.Leb kind) form unit at order spec f wide h = bind_fails (uleb_at unit at
    spec.attribute) (made_from (λ (n : ℕ). number kind n)) f (uleb_out unit at spec.attribute f h)
read_out layouts.Signed form unit at order spec f wide h = bind_fails (sleb_at unit at
    spec.attribute) (made_from (λ (n : ℤ). signed n)) f (sleb_out unit at spec.attribute f h)
read_out layouts.Implicit form unit at order spec f wide h =
    bind_fails (bytes_at unit at 0 spec.attribute) (made_from (λ (b : List ℕ). signed spec.implicit)) f
    (bytes_out unit at 0 spec.attribute f h)
read_out layouts.Flag form unit at order spec f wide h =
    bind_fails (fixed_at unit at 1 order spec.attribute)
    (made_from (λ (n : ℕ). flag (not (n == 0)))) f (fixed_out unit at 1 order spec.attribute f h)
read_out layouts.Present form unit at order spec f wide h =
    bind_fails (bytes_at unit at 0 spec.attribute) (made_from (λ (b : List ℕ). flag true)) f
    (bytes_out unit at 0 spec.attribute f h)
read_out layouts.Text form unit at order spec f wide h = bind_fails (text_at unit at spec.attribute)
    (made_from (λ (t : List ℕ). text t)) f (text_out unit at spec.attribute f h)
read_out layouts.Sixteen form unit at order spec f wide h =
    bind_fails (bytes_at unit at 16 spec.attribute) (made_from (λ (b : List ℕ). sixteen b)) f
    (bytes_out unit at 16 spec.attribute f h)
read_out (layouts.Counted w kind) form unit at order spec f wide (inl h) =
    bind_fails (fixed_at unit at w order spec.attribute) (body unit spec.attribute kind) f
    (fixed_out unit at w order spec.attribute f h)
read_out (layouts.Counted w kind) form unit at order spec f wide (inr h) =
    bind_gives (fixed_at unit at w order spec.attribute) (body unit spec.attribute kind)
    (ordered order h.0, h.1) (fixed_gives unit at w order spec.attribute h.1 h.0 wide.0 h.2 h.3)
    ∙ body_out unit spec.attribute kind (ordered order h.0, h.1) f h.4
read_out (layouts.LebCounted kind) form unit at order spec f wide (inl h) = bind_fails (uleb_at unit
    at spec.attribute) (body unit spec.attribute kind) f (uleb_out unit at spec.attribute f h)
read_out (layouts.LebCounted kind) form unit at order spec f wide (inr h) =
    bind_gives (uleb_at unit at spec.attribute) (body unit spec.attribute kind) (h.0, h.1)
    (number_gives unit at spec.attribute h.0 h.1 h.2)
    ∙ body_out unit spec.attribute kind (h.0, h.1) f h.3
read_out (layouts.Elsewhere w) form unit at order spec f wide h =
    bind_fails (fixed_at unit at w order spec.attribute) (made_from (λ (n : ℕ). elsewhere form)) f
    (fixed_out unit at w order spec.attribute f h)

-- the form that is used
abbrev known : ℕ × ℕ → Result (ℕ × ℕ) FormFault
known f =
    if f.0 == DW_FORM_indirect || f.0 == DW_FORM_implicit_const then Err (FormUnknown f.0) else Ok f

known_err : (n : ℕ × ℕ) (f : FormFault) (t u : Bool) → (n.0 == DW_FORM_indirect) ≡ t
    → (n.0 == DW_FORM_implicit_const) ≡ u
    → ◌≡◌ {A = Result (ℕ × ℕ) FormFault} (if t || u then Err (FormUnknown n.0) else Ok n) (Err f)
    → ((n.0 ≡ DW_FORM_indirect) ⊎ (n.0 ≡ DW_FORM_implicit_const)) × (f ≡ FormUnknown n.0)
known_err n f true u t' u' e =
    (inl (eqb-true n.0 DW_FORM_indirect t'), sym (same_fault {A = ℕ × ℕ} (FormUnknown n.0) f e))
known_err n f false true t' u' e = (
  inr (eqb-true n.0 DW_FORM_implicit_const u'),
  sym (same_fault {A = ℕ × ℕ} (FormUnknown n.0) f e),
)
known_err n f false false t' u' e = never n f e

known_out : (n : ℕ × ℕ) → (n.0 ≡ DW_FORM_indirect) ⊎ (n.0 ≡ DW_FORM_implicit_const)
    → known n ≡ Err (FormUnknown n.0)
known_out n (inl h) = rw (eq-eqb n.0 DW_FORM_indirect h) refl
known_out n (inr h) = either (n.0 == DW_FORM_indirect) (eq-eqb n.0 DW_FORM_implicit_const h)
  where
    either : (t : Bool) → (n.0 == DW_FORM_implicit_const) ≡ true
        → ◌≡◌ {A = Result (ℕ × ℕ) FormFault} (if t || (n.0 == DW_FORM_implicit_const)
        then Err (FormUnknown n.0) else Ok n) (Err (FormUnknown n.0))
    either true e = refl
    either false e = rw e refl

named_err : (c : Within) (spec : Spec) (at : ℕ) (f : FormFault)
    → (uleb_at c.unit at spec.attribute ≡ Err f) ⊎ ((n : ℕ × ℕ)
    × (uleb_at c.unit at spec.attribute ≡ Ok n) × (known n ≡ Err f)) → NoneNamed c spec at f
named_err c spec at f (inl h) = inl (uleb_err c.unit at spec.attribute f h)
named_err c spec at f (inr h) =
    let k = known_err h.0 f (h.0.0 == DW_FORM_indirect)
    (h.0.0 == DW_FORM_implicit_const) refl refl h.2 in
    inr (h.0.0, h.0.1, number_is c.unit at spec.attribute h.0.0 h.0.1 h.1, k.0, k.1)

used_err : (c : Within) (spec : Spec) (at : ℕ) (f : FormFault) (t : Bool)
    → (spec.form == DW_FORM_indirect) ≡ t → (if t then named_form c.unit at spec
    else Ok (spec.form, at)) ≡ Err f → (spec.form ≡ DW_FORM_indirect) × NoneNamed c spec at f
used_err c spec at f true t e = (
  eqb-true spec.form DW_FORM_indirect t,
  named_err c spec at f (bind_err (uleb_at c.unit at spec.attribute) known f e),
)
used_err c spec at f false t e = never {A = ℕ × ℕ} (spec.form, at) f e

form_err : (c : Within) (spec : Spec) (at : ℕ) (f : FormFault) → form_at c.unit at spec ≡ Err f
    → (spec.form ≡ DW_FORM_indirect) × NoneNamed c spec at f
unfolding form_at
form_err c spec at f e = used_err c spec at f (spec.form == DW_FORM_indirect) refl e

named_out : (c : Within) (spec : Spec) (at : ℕ) (f : FormFault) → NoneNamed c spec at f
    → named_form c.unit at spec ≡ Err f
named_out c spec at f (inl h) =
    bind_fails (uleb_at c.unit at spec.attribute) known f (uleb_out c.unit at spec.attribute f h)
named_out c spec at f (inr h) =
    bind_gives (uleb_at c.unit at spec.attribute) known (h.0, h.1)
    (number_gives c.unit at spec.attribute h.0 h.1 h.2) ∙ known_out (h.0, h.1) h.3
    ∙ ap (λ (f : FormFault). Err f) (sym h.4)

form_out : (c : Within) (spec : Spec) (at : ℕ) (f : FormFault) → spec.form ≡ DW_FORM_indirect
    → NoneNamed c spec at f → form_at c.unit at spec ≡ Err f
unfolding form_at
form_out c spec at f is h = ap (λ (t : Bool). if t then named_form c.unit at spec
    else Ok (spec.form, at)) (eq-eqb spec.form DW_FORM_indirect is) ∙ named_out c spec at f h

-- the value
abbrev shown_after : ℕ → Plain × ℕ → Result (Shown × ℕ) FormFault
shown_after form v = Ok (shown_as form v.0, v.1)

abbrev read_form : Within → Spec → ℕ × ℕ → FormLayout → Result (Shown × ℕ) FormFault
read_form c spec n l = read_at l n.0 c.unit n.1 c.order spec >>= shown_after n.0

row_err : (form : ℕ) (o : Option FormLayout) (f : FormFault) → or_unknown form o ≡ Err f
    → (o ≡ None) × (f ≡ FormUnknown form)
row_err form None f e = (refl, sym (same_fault {A = FormLayout} (FormUnknown form) f e))
row_err form (Some l) f e = never l f e

shown_err : (form : ℕ) (r : Result (Plain × ℕ) FormFault) (f : FormFault)
    → (r >>= shown_after form) ≡ Err f → r ≡ Err f
shown_err form (Err d) f e = let q : d ≡ f = same_fault {A = Shown × ℕ} d f e in
    ap (λ (d : FormFault). Err d) q
shown_err form (Ok v) f e = never {A = Shown × ℕ} (shown_as form v.0, v.1) f e

none_of : (c : Within) (spec : Spec) (n : ℕ × ℕ) (f : FormFault)
    → (or_unknown n.0 (layout_of c.offset_bytes c.address_bytes n.0) ≡ Err f)
    ⊎ ((l : FormLayout) × (or_unknown n.0 (layout_of c.offset_bytes c.address_bytes n.0) ≡ Ok l)
    × (read_form c spec n l ≡ Err f)) → NoneOfForm c spec n.0 n.1 f
none_of c spec n f (inl h) = inl (row_err n.0 (layout_of c.offset_bytes c.address_bytes n.0) f h)
none_of c spec n f (inr h) =
    inr (
      h.0,
      unknown_found n.0 (layout_of c.offset_bytes c.address_bytes n.0) h.0 h.1,
      read_err h.0 n.0
          c.unit n.1 c.order spec f (shown_err n.0 (read_at h.0 n.0 c.unit n.1 c.order spec) f h.2),
    )

refused_by : (c : Within) (spec : Spec) (at : ℕ) (f : FormFault) → (form_at c.unit at spec ≡ Err f)
    ⊎ ((n : ℕ × ℕ) × (form_at c.unit at spec ≡ Ok n) × (after_form c spec n ≡ Err f))
    → IsRefused c spec at f
refused_by c spec at f (inl h) = inl (form_err c spec at f h)
refused_by c spec at f (inr h) =
    inr (
      h.0.0,
      h.0.1,
      form_is c spec at h.0.0 h.0.1 h.1,
      none_of c spec h.0 f (bind_err (or_unknown
          h.0.0 (layout_of c.offset_bytes c.address_bytes h.0.0)) (read_form c spec h.0) f h.2),
    )

pub refused : (c : Within) (spec : Spec) (at : ℕ) (f : FormFault) → value_of c spec at ≡ Err f
    → IsRefused c spec at f
unfolding value_of
refused c spec at f e =
    refused_by c spec at f (bind_err (form_at c.unit at spec) (after_form c spec) f e)

none_out : (c : Within) (spec : Spec) (form at : ℕ) (f : FormFault) → HasWidth c.offset_bytes
    → HasWidth c.address_bytes → NoneOfForm c spec form at f → after_form c spec (form, at) ≡ Err f
none_out c spec form at f o a (inl h) =
    bind_fails (or_unknown form (layout_of c.offset_bytes c.address_bytes form)) (read_form c spec
    (form, at)) f (ap (or_unknown form) h.0 ∙ ap (λ (f : FormFault). Err f) (sym h.1))
none_out c spec form at f o a (inr h) =
    bind_gives (or_unknown form (layout_of c.offset_bytes c.address_bytes form))
    (read_form c spec (form, at)) h.0 (ap (or_unknown form) h.1)
    ∙ bind_fails (read_at h.0 form c.unit at c.order spec) (shown_after form) f (read_out h.0 form
    c.unit at c.order spec f (has_widths c.offset_bytes c.address_bytes form h.0 o a h.1) h.2)

pub refusing : (c : Within) (spec : Spec) (at : ℕ) (f : FormFault) → HasWidth c.offset_bytes
    → HasWidth c.address_bytes → IsRefused c spec at f → value_of c spec at ≡ Err f
unfolding value_of
refusing c spec at f o a (inl h) =
    bind_fails (form_at c.unit at spec) (after_form c spec) f (form_out c spec at f h.0 h.1)
refusing c spec at f o a (inr h) = bind_gives (form_at c.unit at spec) (after_form c spec) (
  h.0,
  h.1,
) (form_gives c spec at h.0 h.1 h.2) ∙ none_out c spec h.0 h.1 f o a h.3
