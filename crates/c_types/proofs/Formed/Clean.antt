-- Texts among the values of entries have no NUL.
use Rattle.std.proofs.Common.{◌≡◌, ℕ, zero, suc, ◌+◌, ◌-◌, ◌==◌, not, Bool, true, false, List, []}
use Rattle.std.proofs.Common.{◌∷◌, length, Option, None, Some, Result, Ok, Err, if◌then◌else◌, refl}
use Rattle.std.proofs.Common.{subst}
use Rattle.std.specs.Prelude.{All}
use Rattle.std.proofs.lemmas.List.Elements.{All-nil, All-cons, All-head, All-tail}
use Rattle.dw_base.specs.Texts.{text_of, HasNoNul}
use Rattle.dw_base.specs.declared.numbers.Order.{Order}
use Rattle.dwarf_abbrev.specs.Declarations.{Declaration}
use Rattle.dwarf_abbrev.specs.declared.spec.Spec.{Spec}
use Rattle.dwarf_forms.specs.declared.fault.FormFault.{FormFault}
use Rattle.dwarf_forms.specs.declared.layout.FormLayout.{FormLayout}
use Rattle.dwarf_forms.specs.declared.layout.FormLayout.TheVariants as layouts
use Rattle.dwarf_forms.specs.Forms.{layout_of}
use Rattle.dwarf_forms.specs.Values.{◌>>=◌, Plain, Shown, Within, or_cut, or_unknown, fixed_at}
use Rattle.dwarf_forms.specs.Values.{uleb_at, sleb_at, bytes_at, text_at, read_at, form_at, value_of}
use Rattle.dwarf_forms.specs.Values.Plain.{number, signed, bytes, sixteen, text, flag, elsewhere}
use Rattle.entry_tree.specs.Items.{Standing, Given, Coming, listed, given_at, opened, after_item}
use Rattle.entry_tree.specs.Items.{item_at, coming}
use Rattle.entry_tree.specs.Items.Standing.{nothing, null, entry}
use Rattle.entry_tree.specs.Reads.{and_then, values_at, value_with}
use Rattle.entry_tree.specs.declared.fault.WalkFault.{WalkFault}
use Rattle.dw_base.proofs.Texts.{text_of_no_nul}
use Rattle.c_types.proofs.Formed.Names.{IsNamedCleanly}

abbrev pub IsCleanPlain : Plain → Type 0
IsCleanPlain (text t) = HasNoNul t
IsCleanPlain other = Unit {0}

bound : {A B : Type 0} (P : Type 0) (r : Result A FormFault) (go : A → Result B FormFault) (x : B)
    → ((a : A) → r ≡ Ok a → go a ≡ Ok x → P) → (r >>= go) ≡ Ok x → P
bound P (Ok a) go x h e = h a refl e
bound P (Err f) go x h e = absurd (cc)

same : {B : Type 0} (x y : B) → ◌≡◌ {A = Result B FormFault} (Ok x) (Ok y) → x ≡ y
same x y e = cc

answer : (y x : Plain × ℕ) → IsCleanPlain y.0 → ◌≡◌ {A = Result (Plain × ℕ) FormFault} (Ok y) (Ok x)
    → IsCleanPlain x.0
answer y x clean e = subst (λ (z : Plain × ℕ). IsCleanPlain z.0) (same y x e) clean

cut_clean : (attribute : ℕ) (t : List ℕ) (o : Option (List ℕ))
    → ((u : List ℕ) → o ≡ Some u → HasNoNul u) → or_cut attribute o ≡ Ok t → HasNoNul t
cut_clean attribute t None h e = absurd (cc)
cut_clean attribute t (Some u) h e = subst HasNoNul (same u t e) (h u refl)

text_at_clean : (unit : List ℕ) (at attribute : ℕ) (x : List ℕ × ℕ)
    → text_at unit at attribute ≡ Ok x → HasNoNul x.0
unfolding text_at
text_at_clean unit at attribute x e =
    bound (HasNoNul x.0) (or_cut attribute (text_of unit at))
    (λ (t : List ℕ). Ok (t, at + length t + 1)) x
    (λ (t : List ℕ) (is : or_cut attribute (text_of unit at) ≡ Ok t)
    (h : ◌≡◌ {A = Result (List ℕ × ℕ) FormFault} (Ok (t, at + length t + 1)) (Ok x)).
    subst (λ (z : List ℕ × ℕ). HasNoNul z.0) (same (t, at + length t + 1) x h)
    (cut_clean attribute t (text_of unit at)
    (λ (u : List ℕ) (k : text_of unit at ≡ Some u). text_of_no_nul unit u at k) is)) e

read_clean : (l : FormLayout) (form : ℕ) (unit : List ℕ) (at : ℕ) (order : Order) (spec : Spec)
    (x : Plain × ℕ) → read_at l form unit at order spec ≡ Ok x → IsCleanPlain x.0
unfolding read_at
read_clean (layouts.Fixed w kind) form unit at order spec x e = bound (IsCleanPlain x.0)
    (fixed_at unit at w order spec.attribute) _ x (λ n is h. answer (number kind n.0, n.1) x tt h) e
read_clean (layouts.Leb kind) form unit at order spec x e = bound (IsCleanPlain x.0)
    (uleb_at unit at spec.attribute) _ x (λ n is h. answer (number kind n.0, n.1) x tt h) e
read_clean layouts.Signed form unit at order spec x e = bound (IsCleanPlain x.0)
    (sleb_at unit at spec.attribute) _ x (λ n is h. answer (signed n.0, n.1) x tt h) e
read_clean layouts.Implicit form unit at order spec x e = bound (IsCleanPlain x.0)
    (bytes_at unit at 0 spec.attribute) _ x (λ b is h. answer (signed spec.implicit, b.1) x tt h) e
read_clean layouts.Flag form unit at order spec x e = bound (IsCleanPlain x.0) (fixed_at unit at 1
    order spec.attribute) _ x (λ n is h. answer (flag (not (n.0 == 0)), n.1) x tt h) e
read_clean layouts.Present form unit at order spec x e = bound (IsCleanPlain x.0)
    (bytes_at unit at 0 spec.attribute) _ x (λ b is h. answer (flag true, b.1) x tt h) e
read_clean layouts.Text form unit at order spec x e =
    bound (IsCleanPlain x.0) (text_at unit at spec.attribute) _ x
    (λ t is h. answer (text t.0, t.1) x (text_at_clean unit at spec.attribute t is) h) e
read_clean layouts.Sixteen form unit at order spec x e = bound (IsCleanPlain x.0)
    (bytes_at unit at 16 spec.attribute) _ x (λ b is h. answer (sixteen b.0, b.1) x tt h) e
read_clean (layouts.Counted w kind) form unit at order spec x e =
    bound (IsCleanPlain x.0) (fixed_at unit at w order spec.attribute) _ x
    (λ n is h. bound (IsCleanPlain x.0) (bytes_at unit n.1 n.0 spec.attribute) _ x
    (λ b was k. answer (bytes kind b.0, b.1) x tt k) h) e
read_clean (layouts.LebCounted kind) form unit at order spec x e =
    bound (IsCleanPlain x.0) (uleb_at unit at spec.attribute) _ x
    (λ n is h. bound (IsCleanPlain x.0) (bytes_at unit n.1 n.0 spec.attribute) _ x
    (λ b was k. answer (bytes kind b.0, b.1) x tt k) h) e
read_clean (layouts.Elsewhere w) form unit at order spec x e = bound (IsCleanPlain x.0)
    (fixed_at unit at w order spec.attribute) _ x (λ n is h. answer (elsewhere form, n.1) x tt h) e

value_clean : (c : Within) (spec : Spec) (at : ℕ) (x : Shown × ℕ) → value_of c spec at ≡ Ok x
    → IsCleanPlain x.0.value
unfolding value_of
value_clean c spec at x e =
    bound (IsCleanPlain x.0.value) (form_at c.unit at spec) _ x
    (λ f is h.
    bound (IsCleanPlain x.0.value)
    (or_unknown f.0 (layout_of c.offset_bytes c.address_bytes f.0)) _ x
    (λ l was k.
    bound (IsCleanPlain x.0.value) (read_at l f.0 c.unit f.1 c.order spec) _ x
    (λ v read m.
    subst (λ (z : Shown × ℕ). IsCleanPlain z.0.value) (same (
      record { form = f.0; value = v.0 },
      v.1,
    ) x m) (read_clean l f.0 c.unit f.1 c.order spec v read)) k) h) e

-- the values of an entry
abbrev pub IsCleanValue : ℕ × Shown → Type 0
IsCleanValue v = IsCleanPlain v.1.value

then_bound : {A B : Type 0} (P : Type 0) (r : Result A FormFault) (go : A → Result B FormFault)
    (x : B) → ((a : A) → r ≡ Ok a → go a ≡ Ok x → P) → and_then r go ≡ Ok x → P
then_bound P (Ok a) go x h e = h a refl e
then_bound P (Err f) go x h e = absurd (cc)

values_clean : (c : Within) (specs : List Spec) (at : ℕ) (x : List (ℕ × Shown) × ℕ)
    → values_at c specs at ≡ Ok x → All IsCleanValue x.0
unfolding values_at
values_clean c [] at x e = subst
    (λ (z : List (ℕ × Shown) × ℕ). All IsCleanValue z.0) (same ([], at) x e) (All-nil IsCleanValue)
values_clean c (s ∷ ss) at x e =
    then_bound (All IsCleanValue x.0) (value_of c s at) _ x
    (λ v is h.
    then_bound (All IsCleanValue x.0) (values_at c ss v.1) _ x
    (λ vs was k.
    subst (λ (z : List (ℕ × Shown) × ℕ). All IsCleanValue z.0)
    (same ((s.attribute, v.0) ∷ vs.0, vs.1) x k)
    (All-cons IsCleanValue (s.attribute, v.0) vs.0 (value_clean c s at v is)
    (values_clean c ss v.1 vs was))) h) e

abbrev pub IsClean : Given → Type 0
IsClean e = All IsCleanValue e.values

listed_clean : (r : Result (List (ℕ × Shown) × ℕ) FormFault)
    → ((x : List (ℕ × Shown) × ℕ) → r ≡ Ok x → All IsCleanValue x.0) → All IsCleanValue (listed r)
listed_clean (Ok x) h = h x refl
listed_clean (Err f) h = All-nil IsCleanValue

given_clean : (c : Within) (d : Declaration) (from at lists : ℕ)
    → IsClean (given_at c d from at lists)
given_clean c d from at lists = listed_clean (values_at c d.specs from)
    (λ (x : List (ℕ × Shown) × ℕ) (h : values_at c d.specs from ≡ Ok x).
    values_clean c d.specs from x h)

item_clean : (c : Within) (at lists : ℕ) (go : ℕ → ℕ → Coming) (r : Result Standing WalkFault)
    → ((next more : ℕ) → All IsClean (go next more).entries)
    → All IsClean (after_item c at lists go r).entries
item_clean c at lists go (Err f) h = All-nil IsClean
item_clean c at lists go (Ok nothing) h = All-nil IsClean
item_clean c at lists go (Ok (null end)) h = h end (lists - 1)
item_clean c at lists go (Ok (entry d from end)) h = All-cons IsClean (given_at c d from at lists)
    (go end (opened d lists)).entries (given_clean c d from at lists) (h end (opened d lists))

pub coming_clean : (c : Within) (declarations : List Declaration) (first n at lists : ℕ)
    → All IsClean (coming c declarations first n at lists).entries
unfolding coming
coming_clean c declarations first zero at lists = All-nil IsClean
coming_clean c declarations first (suc n) at lists = item_clean c at lists
    (λ next more. coming c declarations first n next more) (item_at c declarations first at lists)
    (λ (next more : ℕ). coming_clean c declarations first n next more)

-- a name among them
own_text : (p : Plain) (t : List ℕ) → IsCleanPlain p → p ≡ text t → HasNoNul t
own_text p t clean is = subst IsCleanPlain is clean

valued : (name : ℕ) (v : ℕ × Shown) (vs : List (ℕ × Shown)) (w : Shown) (here : Bool)
    → IsCleanValue v → (value_with name vs ≡ Some w → IsCleanPlain w.value)
    → (if here then Some v.1 else value_with name vs) ≡ Some w → IsCleanPlain w.value
valued name v vs w true clean later e = let q : v.1 ≡ w = cc in
    subst (λ (x : Shown). IsCleanPlain x.value) q clean
valued name v vs w false clean later e = later e

with_clean : (name : ℕ) (vs : List (ℕ × Shown)) (w : Shown) → All IsCleanValue vs
    → value_with name vs ≡ Some w → IsCleanPlain w.value
with_clean name [] w all e = absurd (cc)
with_clean name (v ∷ vs) w all e = valued name v vs w (v.0 == name) (All-head IsCleanValue v vs all)
    (with_clean name vs w (All-tail IsCleanValue v vs all)) e

pub named_cleanly : (e : Given) → IsClean e → IsNamedCleanly e
named_cleanly e clean attribute v t has is =
    own_text v.value t (with_clean attribute e.values v clean has) is
