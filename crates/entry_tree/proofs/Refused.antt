-- An item is refused for its first piece that is wrong where it stands.
use Rattle.std.proofs.Common.{◌≡◌, ◌≢◌, ℕ, ◌<◌, ◌≤◌, ◌==◌, ◌&&◌, not, nat_le, Bool, true, false}
use Rattle.std.proofs.Common.{List, [], ◌∷◌, ◌++◌, length, Option, None, Some, Result, Ok, Err}
use Rattle.std.proofs.Common.{if◌then◌else◌, refl, sym, ap, subst, ◌∙◌, inl, inr, arith}
use Rattle.std.proofs.lemmas.Bool.{leb-true, leb-false, le-leb, lt-leb, eqb-true, eqb-false, eq-eqb}
use Rattle.std.proofs.lemmas.Bool.{ne_eqb}
use Rattle.dw_base.specs.Leb128.{uleb_of}
use Rattle.dw_base.specs.declared.leb128.LebFault.{LebFault}
use Rattle.dw_base.specs.declared.leb128.LebFault.TheVariants.{Truncated, TooWide}
use Rattle.dw_base.proofs.Ends.{ok_parts}
use Rattle.dwarf_abbrev.specs.Declarations.{Declaration, declaration_with}
use Rattle.dwarf_abbrev.specs.declared.spec.Spec.{Spec}
use Rattle.dwarf_forms.specs.declared.fault.FormFault.{FormFault}
use Rattle.dwarf_forms.specs.declared.fault.FormFault.TheVariants.{LebWide, ValueTruncated}
use Rattle.dwarf_forms.specs.Values.{Shown, Within, value_of, end_of, of_leb, uleb_at}
use Rattle.dwarf_forms.specs.Refusals.{NoNumber}
use Rattle.dwarf_forms.proofs.Refused.{uleb_err, uleb_out, same_fault, never}
use Rattle.entry_tree.specs.Reads.{and_then, values_at, ends_at}
use Rattle.entry_tree.specs.Items.{◌>>=◌, Standing, item_at, code_at, of_code, or_missing, of_form}
use Rattle.entry_tree.specs.Items.{is_root}
use Rattle.entry_tree.specs.Items.Standing.{nothing, null, entry}
use Rattle.entry_tree.specs.Tree.{Item, open_behind, MayStand}
use Rattle.entry_tree.specs.Refusals.{NoEnd, NoValues, NoneOf, NoAbbrev, NoEntry, NoCoded, NoCode}
use Rattle.entry_tree.specs.Refusals.{IsRefused}
use Rattle.entry_tree.specs.declared.fault.WalkFault.{WalkFault}
use Rattle.entry_tree.specs.declared.fault.WalkFault.TheVariants.{UnitRoot, AbbrevMissing, Form}
use Rattle.entry_tree.specs.declared.fault.WalkFault.TheVariants.{TreeOpen, AfterRoot}
use Rattle.entry_tree.proofs.Ends.{ends_more, ends_none}
use Rattle.entry_tree.proofs.Saying.{finish, rooted, named, coded, last, root_test, over_test}
use Rattle.entry_tree.proofs.Tiling.{Begun, may_stand, not_first, some_before}

-- the first value that can't be read
no_more : (c : Within) (s : Spec) (ss : List Spec) (at : ℕ) (g : FormFault)
    (q : Result (Shown × ℕ) FormFault) → value_of c s at ≡ q
    → ((from : ℕ) → ends_at c ss from ≡ Err g → NoValues c ss from g)
    → and_then (end_of q) (λ (e : ℕ). ends_at c ss e) ≡ Err g → NoValues c (s ∷ ss) at g
unfolding values_at
no_more c s ss at g (Err f) is ih e = let q : f ≡ g = same_fault {A = ℕ} f g e in
    ([], s, ss, refl, [], at, refl, is ∙ ap (λ (f : FormFault). Err f) q)
no_more c s ss at g (Ok v) is ih e =
    let n = ih v.1 e in (
      s ∷ n.0,
      n.1,
      n.2,
      ap (λ (xs : List Spec). s ∷ xs) n.3,
      (s.attribute, v.0) ∷ n.4,
      n.5,
      rw (is, n.6) refl,
      n.7,
    )

pub no_values : (c : Within) (specs : List Spec) (at : ℕ) (g : FormFault)
    → ends_at c specs at ≡ Err g → NoValues c specs at g
no_values c [] at g e = never {A = ℕ} at g (sym (ends_none c at) ∙ e)
no_values c (s ∷ ss) at g e =
    no_more c s ss at g (value_of c s at) refl (λ (from : ℕ) (h : ends_at c ss from ≡ Err g).
    no_values c ss from g h) (sym (ends_more c s ss at) ∙ e)

-- and the other way round
then_read : {A B : Type 0} (r : Result A FormFault) (f : A → Result B FormFault) (y : B)
    → and_then r f ≡ Ok y → (x : A) × (r ≡ Ok x) × (f x ≡ Ok y)
then_read (Ok x) f y e = (x, refl, e)
then_read (Err d) f y e = absurd (cc)

ends_after : (c : Within) (s : Spec) (ss : List Spec) (at : ℕ) (v : Shown × ℕ)
    → value_of c s at ≡ Ok v → ends_at c (s ∷ ss) at ≡ ends_at c ss v.1
ends_after c s ss at v e = ends_more c s ss at ∙ rw e refl

values_fail : (c : Within) (read : List Spec) (s : Spec) (left : List Spec) (at mid : ℕ)
    (values : List (ℕ × Shown)) (g : FormFault) → values_at c read at ≡ Ok (values, mid)
    → value_of c s mid ≡ Err g → ends_at c (read ++ s ∷ left) at ≡ Err g
unfolding values_at
values_fail c [] s left at mid values g h e =
    let p = ok_parts {F = FormFault} [] values at mid h in
    ends_more c s left at ∙ rw (p.1, e) refl
values_fail c (r ∷ rs) s left at mid values g h e =
    let a = then_read (value_of c r at) (λ (v : Shown × ℕ). and_then (values_at c rs v.1)
    (λ (vs : List (ℕ × Shown) × ℕ). Ok ((r.attribute, v.0) ∷ vs.0, vs.1))) (values, mid) h in
    let b = then_read (values_at c rs a.0.1)
    (λ (vs : List (ℕ × Shown) × ℕ). Ok ((r.attribute, a.0.0) ∷ vs.0, vs.1)) (values, mid) a.2 in
    let p = ok_parts {F = FormFault} ((r.attribute, a.0.0) ∷ b.0.0) values b.0.1 mid b.2 in
    let ih = values_fail c rs s left a.0.1 mid b.0.0 g
    (subst (λ (k : ℕ). values_at c rs a.0.1 ≡ Ok (b.0.0, k)) p.1 b.1) e in
    ends_after c r (rs ++ s ∷ left) at a.0 a.1 ∙ ih

pub values_out : (c : Within) (specs : List Spec) (at : ℕ) (g : FormFault) → NoValues c specs at g
    → ends_at c specs at ≡ Err g
values_out c specs at g n =
    ap (λ (xs : List Spec). ends_at c xs at) n.3 ∙ values_fail c n.0 n.1 n.2 at n.5 n.4 g n.6 n.7

-- a code that can't be read
code_cut : (c : Within) (at : ℕ) → uleb_of c.unit at ≡ Err Truncated
    → NoNumber c.unit 0 at (ValueTruncated 0)
unfolding uleb_at
code_cut c at e = uleb_err c.unit at 0 (ValueTruncated 0) (ap (of_leb at 0) e)

code_wide : (c : Within) (at : ℕ) → uleb_of c.unit at ≡ Err TooWide
    → NoNumber c.unit 0 at (LebWide at)
unfolding uleb_at
code_wide c at e = uleb_err c.unit at 0 (LebWide at) (ap (of_leb at 0) e)

of_code_fails : (at : ℕ) (g : FormFault) (q : Result (ℕ × ℕ) LebFault) → of_leb at 0 q ≡ Err g
    → of_code at q ≡ Err (Form at g)
of_code_fails at g (Ok x) e = never x g e
of_code_fails at g (Err Truncated) e =
    ap (λ (f : FormFault). Err (Form at f)) (same_fault {A = ℕ × ℕ} (ValueTruncated 0) g e)
of_code_fails at g (Err TooWide) e =
    ap (λ (f : FormFault). Err (Form at f)) (same_fault {A = ℕ × ℕ} (LebWide at) g e)

code_fails : (c : Within) (at : ℕ) (g : FormFault) → NoNumber c.unit 0 at g
    → code_at c.unit at ≡ Err (Form at g)
unfolding uleb_at
code_fails c at g n = of_code_fails at g (uleb_of c.unit at) (uleb_out c.unit at 0 g n)

bind_walk : {A B : Type 0} (r : Result A WalkFault) (k : A → Result B WalkFault) (f : WalkFault)
    → r ≡ Err f → (r >>= k) ≡ Err f
bind_walk r k f e = rw e refl

-- tests
both_true : (a b : Bool) → (a && not b) ≡ true → (a ≡ true) × (b ≡ false)
both_true true true e = absurd (cc)
both_true true false e = (refl, refl)
both_true false b e = absurd (cc)

over_true : (a b : Bool) → (not a && b) ≡ true → (a ≡ false) × (b ≡ true)
over_true true b e = absurd (cc)
over_true false true e = (refl, refl)
over_true false false e = absurd (cc)

none_open : (before : List Item) → 0 < open_behind before → 0 < length before
none_open [] h = absurd (omega arith)
none_open (i ∷ is) h = omega arith

stands_root : (before : List Item) (d : Declaration) → MayStand before d → length before ≡ 0
    → is_root d.tag ≡ true
stands_root [] d h e = h
stands_root (i ∷ is) d h e = absurd (omega arith)

module _ (c : Within) (declarations : List Declaration) (first at : ℕ) (before : List Item)
    (begun : Begun first at before) where
  abbrev lists : ℕ
  lists = open_behind before

  abbrev Refused : WalkFault → Type 0
  Refused f = IsRefused c declarations before at f

  abbrev Tells : Result Standing WalkFault → Type 0
  Tells (Err f) = Refused f
  Tells (Ok s) = Unit {0}

  at_first : at ≡ first → length before ≡ 0
  at_first e = by before begun
    where
      by : (js : List Item) → Begun first at js → length js ≡ 0
      by [] b = refl
      by (j ∷ js) b = let lt : first < at = b.later (omega arith) in absurd (omega arith)

  inside_open : (at ≢ first → lists ≢ 0) → 0 < length before → 0 < open_behind before
  inside_open h some = let ne : open_behind before ≢ 0 = h (not_first first at before begun some) in
      omega arith

  open_inside : (0 < length before → 0 < open_behind before) → at ≢ first → lists ≢ 0
  open_inside h ne zero = let some : 0 < open_behind before =
      h (some_before first at before begun ne) in omega arith

  tell_values : (d : Declaration) (from : ℕ) (q : Result ℕ FormFault) → ends_at c d.specs from ≡ q
      → (at ≡ first → is_root d.tag ≡ true) → (at ≢ first → lists ≢ 0)
      → ((f : WalkFault) → NoneOf c before d at from f → Refused f)
      → Tells (of_form at q >>= λ (end : ℕ). Ok (entry d from end))
  tell_values d from (Ok end) is root inside on = tt
  tell_values d from (Err g) is root inside on = on (Form at g)
      (inr (may_stand first at before d begun root inside, g, no_values c d.specs from g is, refl))

  root_holds : (d : Declaration) (b : Bool) → (b && not (is_root d.tag)) ≡ false → (at == first) ≡ b
      → at ≡ first → is_root d.tag ≡ true
  root_holds d true h is e = by (is_root d.tag) h
    where
      by : (r : Bool) → not r ≡ false → r ≡ true
      by true h = refl
      by false h = absurd (cc)
  root_holds d false h is e = absurd (eqb-false at first is e)

  tell_root : (d : Declaration) (from : ℕ) (b : Bool) → (at == first && not (is_root d.tag)) ≡ b
      → (at ≢ first → lists ≢ 0) → ((f : WalkFault) → NoneOf c before d at from f → Refused f)
      → Tells (if b then Err (UnitRoot at d.tag) else finish c declarations first at lists d from)
  tell_root d from true is inside on =
      let p = both_true (at == first) (is_root d.tag) is in
      on (UnitRoot at d.tag) (inl (at_first (eqb-true at first p.0), p.1, refl))
  tell_root d from false is inside on = tell_values d from (ends_at c d.specs from) refl
      (root_holds d (at == first) is refl) inside on

  tell_named : (code from : ℕ) (o : Option Declaration) → declaration_with code declarations ≡ o
      → (at ≢ first → lists ≢ 0)
      → ((f : WalkFault) → NoAbbrev c declarations before code at from f → Refused f)
      → Tells (or_missing at code o >>= λ (d : Declaration).
      rooted c declarations first at lists d from)
  tell_named code from None is inside on = on (AbbrevMissing at code) (inl (is, refl))
  tell_named code from (Some d) is inside on =
      tell_root d from (at == first && not (is_root d.tag)) refl inside
      (λ (f : WalkFault) (n : NoneOf c before d at from f). on f (inr (d, is, n)))

  over_false : (b : Bool) → (not b && lists == 0) ≡ false → (at == first) ≡ b → at ≢ first
      → lists ≢ 0
  over_false true h is ne = absurd (ne (eqb-true at first is))
  over_false false h is ne = eqb-false lists 0 h

  tell_over : (code from : ℕ) (b : Bool) → (not (at == first) && lists == 0) ≡ b
      → ((f : WalkFault) → NoEntry c declarations before code at from f → Refused f)
      → Tells (if b then Err (AfterRoot at) else named c declarations first at lists code from)
  tell_over code from true is on =
      let p = over_true (at == first) (lists == 0) is in
      on (AfterRoot at) (inl (
        some_before first at before begun (eqb-false at first p.0),
        eqb-true lists 0 p.1,
        refl,
      ))
  tell_over code from false is on =
      let inside : at ≢ first → lists ≢ 0 = over_false (at == first) is refl in
      tell_named code from (declaration_with code declarations) refl inside
      (λ (f : WalkFault) (n : NoAbbrev c declarations before code at from f).
      on f (inr (inside_open inside, n)))

  tell_null : (code from : ℕ) (b : Bool) → code ≡ 0 → (at == first) ≡ b
      → ((f : WalkFault) → NoCoded c declarations before code at from f → Refused f)
      → Tells (if b then Err (UnitRoot at 0) else Ok (null from))
  tell_null code from true zero is on =
      on (UnitRoot at 0) (inl (zero, at_first (eqb-true at first is), refl))
  tell_null code from false zero is on = tt

  tell_code : (code from : ℕ) (b : Bool) → (code == 0) ≡ b
      → ((f : WalkFault) → NoCoded c declarations before code at from f → Refused f)
      → Tells (if b then (if at == first then Err (UnitRoot at 0) else Ok (null from))
      else (if not (at == first) && lists == 0 then Err (AfterRoot at)
      else named c declarations first at lists code from))
  tell_code code from true is on = tell_null code from (at == first) (eqb-true code 0 is) refl on
  tell_code code from false is on =
      tell_over code from (not (at == first) && lists == 0) refl
      (λ (f : WalkFault) (n : NoEntry c declarations before code at from f).
      on f (inr (eqb-false code 0 is, n)))

  tell_number : (q : Result (ℕ × ℕ) LebFault) → uleb_of c.unit at ≡ q
      → ((f : WalkFault) → NoCode c declarations before at f → Refused f)
      → Tells (of_code at q >>= λ (code : ℕ × ℕ). coded c declarations first at lists code.0 code.1)
  tell_number (Ok x) is on = tell_code x.0 x.1 (x.0 == 0) refl
      (λ (f : WalkFault) (n : NoCoded c declarations before x.0 at x.1 f).
      on f (inr (x.0, x.1, is, n)))
  tell_number (Err Truncated) is on =
      on (Form at (ValueTruncated 0)) (inl (ValueTruncated 0, code_cut c at is, refl))
  tell_number (Err TooWide) is on =
      on (Form at (LebWide at)) (inl (LebWide at, code_wide c at is, refl))

  tell_closed : (b : Bool) → (lists == 0) ≡ b → length c.unit ≤ at
      → Tells (if b then Ok nothing else Err (TreeOpen at))
  tell_closed true is le = tt
  tell_closed false is le = let ne : lists ≢ 0 = eqb-false lists 0 is in
      inl (le, inr (omega arith, refl))

  tell_last : (b : Bool) → (at == first) ≡ b → length c.unit ≤ at → Tells
      (if b then Err (UnitRoot at 0) else (if lists == 0 then Ok nothing else Err (TreeOpen at)))
  tell_last true is le = inl (le, inl (at_first (eqb-true at first is), refl))
  tell_last false is le = tell_closed (lists == 0) refl le

  tell_end : (b : Bool) → nat_le (length c.unit) at ≡ b
      → Tells (if b then last c declarations first at lists else (code_at c.unit at
      >>= λ (code : ℕ × ℕ). coded c declarations first at lists code.0 code.1))
  tell_end true is = tell_last (at == first) refl (leb-true (length c.unit) at is)
  tell_end false is = tell_number (uleb_of c.unit at) refl
      (λ (f : WalkFault) (n : NoCode c declarations before at f).
      inr (leb-false (length c.unit) at is, n))

  tells : Tells (item_at c declarations first at lists)
  unfolding item_at
  tells = tell_end (nat_le (length c.unit) at) refl

  pub item_refused : (f : WalkFault) → item_at c declarations first at lists ≡ Err f → Refused f
  item_refused f e = subst Tells e tells

  -- and the other way round
  abbrev Fails : WalkFault → Type 0
  Fails f = item_at c declarations first at lists ≡ Err f

  end_out : (f : WalkFault) → length c.unit ≤ at → NoEnd before at f → Fails f
  unfolding item_at
  end_out f le (inl h) = rw (le-leb (length c.unit) at le, eq-eqb at first (begun.fresh h.0))
      (ap (λ (f : WalkFault). Err f) (sym h.1))
  end_out f le (inr h) =
      let ne : at ≢ first = not_first first at before begun (none_open before h.0) in
      let some : lists ≢ 0 = λ (zero : lists ≡ 0). omega (arith, h.0, zero) in
      rw (le-leb (length c.unit) at le, ne_eqb at first ne, ne_eqb lists 0 some)
      (ap (λ (f : WalkFault). Err f) (sym h.1))

  none_out : (f : WalkFault) (code from : ℕ) (d : Declaration) → at < length c.unit
      → uleb_of c.unit at ≡ Ok (code, from) → code ≢ 0 → (at ≢ first → lists ≢ 0)
      → declaration_with code declarations ≡ Some d → NoneOf c before d at from f → Fails f
  unfolding item_at
  none_out f code from d lt number some inside declared (inl h) =
      rw (
        lt-leb (length c.unit) at lt,
        number,
        ne_eqb code 0 some,
        over_test c declarations first at lists inside (at == first) refl,
        declared,
        eq-eqb at first (begun.fresh h.0),
        h.1,
      ) (ap (λ (f : WalkFault). Err f) (sym h.2))
  none_out f code from d lt number some inside declared (inr h) =
      let root : at ≡ first → is_root d.tag ≡ true =
      λ (e : at ≡ first). stands_root before d h.0 (at_first e) in
      rw (
        lt-leb (length c.unit) at lt,
        number,
        ne_eqb code 0 some,
        over_test c declarations first at lists inside (at == first) refl,
        declared,
        root_test c
            declarations first at lists d root (at == first) refl,
        values_out c d.specs from h.1 h.2,
      )
      (ap (λ (f : WalkFault). Err f) (sym h.3))

  entry_out : (f : WalkFault) (code from : ℕ) → at < length c.unit → uleb_of c.unit at
      ≡ Ok (code, from) → code ≢ 0 → NoEntry c declarations before code at from f → Fails f
  unfolding item_at
  entry_out f code from lt number some (inl h) =
      rw (
        lt-leb (length c.unit) at lt,
        number,
        ne_eqb code 0 some,
        ne_eqb at first (not_first
            first at before begun h.0),
        eq-eqb lists 0 h.1,
      ) (ap (λ (f : WalkFault). Err f) (sym h.2))
  entry_out f code from lt number some (inr h) = abbrev_out h.1
    where
      abbrev_out : NoAbbrev c declarations before code at from f → Fails f
      abbrev_out (inl n) =
          rw (
            lt-leb (length c.unit) at lt,
            number,
            ne_eqb code 0 some,
            over_test c declarations first at lists (open_inside h.0) (at == first) refl,
            n.0,
          )
          (ap (λ (f : WalkFault). Err f) (sym n.1))
      abbrev_out (inr n) = none_out f code from n.0 lt number some (open_inside h.0) n.1 n.2

  coded_out : (f : WalkFault) (code from : ℕ) → at < length c.unit
      → uleb_of c.unit at ≡ Ok (code, from) → NoCoded c declarations before code at from f → Fails f
  unfolding item_at
  coded_out f code from lt number (inl h) =
      rw (
        lt-leb (length c.unit) at lt,
        number,
        eq-eqb code 0 h.0,
        eq-eqb at first (begun.fresh h.1),
      ) (ap (λ (f : WalkFault). Err f) (sym h.2))
  coded_out f code from lt number (inr h) = entry_out f code from lt number h.0 h.1

  code_out : (f : WalkFault) → at < length c.unit → NoCode c declarations before at f → Fails f
  unfolding item_at
  code_out f lt (inl h) =
      rw (lt-leb (length c.unit) at lt) (bind_walk (code_at c.unit at)
      (λ (code : ℕ × ℕ). coded c declarations first at lists code.0 code.1) f
      (code_fails c at h.0 h.1 ∙ ap (λ (f : WalkFault). Err f) (sym h.2)))
  code_out f lt (inr h) = coded_out f h.0 h.1 lt h.2 h.3

  pub item_out : (f : WalkFault) → Refused f → Fails f
  item_out f (inl h) = end_out f h.0 h.1
  item_out f (inr h) = code_out f h.0 h.1
