-- What comes, item by item.
use Rattle.std.proofs.Common.{◌≡◌, ℕ, zero, suc, ◌+◌, ◌-◌, ◌<◌, ◌≤◌, ◌==◌, ◌&&◌, not, nat_le, Bool}
use Rattle.std.proofs.Common.{true, false, List, [], length, Option, None, Some, Result, Ok, Err}
use Rattle.std.proofs.Common.{is_ok, if◌then◌else◌, refl, sym, ap, subst, ◌∙◌, arith}
use Rattle.std.proofs.lemmas.Bool.{leb-false}
use Rattle.dw_base.proofs.Ends.{uleb_after}
use Rattle.dw_base.specs.Leb128.{uleb_of}
use Rattle.dw_base.specs.declared.leb128.LebFault.{LebFault}
use Rattle.dw_base.specs.declared.leb128.LebFault.TheVariants.{Truncated, TooWide}
use Rattle.dwarf_abbrev.specs.Declarations.{Declaration, declaration_with}
use Rattle.dwarf_forms.specs.declared.fault.FormFault.{FormFault}
use Rattle.dwarf_abbrev.specs.declared.spec.Spec.{Spec}
use Rattle.dwarf_forms.specs.Values.{Shown, Within, within}
use Rattle.dwarf_forms.specs.declared.given.FormCtx.{FormCtx}
use Rattle.std.proofs.lemmas.List.{length-take-le}
use Rattle.entry_tree.specs.declared.fault.WalkFault.{WalkFault}
use Rattle.entry_tree.specs.declared.fault.WalkFault.TheVariants.{UnitRoot, TreeOpen, AfterRoot}
use Rattle.entry_tree.specs.Reads.{values_at, ends_at, end_of_values}
use Rattle.entry_tree.specs.Items.{◌>>=◌, Standing, Coming, item_at, code_at, of_code, or_missing}
use Rattle.entry_tree.specs.Items.{of_form, is_root, after_item, coming, coming_from, with_first}
use Rattle.entry_tree.specs.Items.{given_at, opened}
use Rattle.entry_tree.specs.Items.Standing.{nothing, null, entry}
use Rattle.entry_tree.proofs.Ends.{ends_grow}

abbrev pub ended : Option WalkFault → Coming
ended f = record { entries = []; ending = f }

-- an item that isn't the last lies after its place, and its place in the unit
abbrev pub Goes : Within → ℕ → ℕ → Result Standing WalkFault → Type 0
Goes c at size (Err f) = Unit {0}
Goes c at size (Ok nothing) = Unit {0}
Goes c at size (Ok (null end)) = (at < end) × (at < size)
Goes c at size (Ok (entry r from end)) =
    (at < end) × (at < size) × (ends_at c r.specs from ≡ Ok end)

at_values : (c : Within) (at size : ℕ) (r : Declaration) (from : ℕ) (q : Result ℕ FormFault)
    → ends_at c r.specs from ≡ q → at < from → at < size → ((end : ℕ) → q ≡ Ok end → from ≤ end)
    → Goes c at size (of_form at q >>= λ (end : ℕ). Ok (entry r from end))
at_values c at size r from (Ok end) k a b g = (let h = g end refl in omega arith, b, k)
at_values c at size r from (Err f) k a b g = tt

at_rule : (c : Within) (at first size code from : ℕ) (o : Option Declaration) → at < from
    → at < size
    → Goes c at size (or_missing at code o >>= λ (r : Declaration).
    if at == first && not (is_root r.tag) then Err (UnitRoot at r.tag)
    else (of_form at (ends_at c r.specs from) >>= λ (end : ℕ). Ok (entry r from end)))
at_rule c at first size code from None a b = tt
at_rule c at first size code from (Some r) a b =
    elim (at == first && not (is_root r.tag)) as
    (λ (t : Bool). Goes c at size (if t then Err (UnitRoot at r.tag)
    else (of_form at (ends_at c r.specs from) >>= λ (end : ℕ). Ok (entry r from end)))) [
      | true ↦ tt
      | false ↦ at_values c at size r from (ends_at c r.specs from) refl a b
          (λ (end : ℕ) (e : ends_at c r.specs from ≡ Ok end). ends_grow c r.specs from end e)
    ]

at_code : (c : Within) (declarations : List Declaration) (first at lists size code from : ℕ)
    → at < from → at < size → (zero_code over : Bool)
    → Goes c at size (if zero_code
    then (if at == first then Err (UnitRoot at 0) else Ok (null from)) else (if over
    then Err (AfterRoot at) else (or_missing at code (declaration_with code declarations)
    >>= λ (r : Declaration). if at == first && not (is_root r.tag) then Err (UnitRoot at r.tag)
    else (of_form at (ends_at c r.specs from) >>= λ (end : ℕ). Ok (entry r from end)))))
at_code c declarations first at lists size code from a b true over = elim (at == first) as
    (λ (t : Bool). Goes c at size (if t then Err (UnitRoot at 0) else Ok (null from)))
    [ true ↦ tt | false ↦ (a, b) ]
at_code c declarations first at lists size code from a b false true = tt
at_code c declarations first at lists size code from a b false false =
    at_rule c at first size code from (declaration_with code declarations) a b

at_number : (c : Within) (declarations : List Declaration) (first at lists size : ℕ)
    (q : Result (ℕ × ℕ) LebFault) → at < size → ((v end : ℕ) → q ≡ Ok (v, end) → at < end)
    → Goes c at size (of_code at q >>= λ (code : ℕ × ℕ). if code.0 == 0 then (if at == first
    then Err (UnitRoot at 0) else Ok (null code.1)) else (if not (at == first) && lists == 0
    then Err (AfterRoot at) else (or_missing at code.0 (declaration_with code.0 declarations)
    >>= λ (r : Declaration). if at == first && not (is_root r.tag) then Err (UnitRoot at r.tag)
    else (of_form at (ends_at c r.specs code.1) >>= λ (end : ℕ). Ok (entry r code.1 end)))))
at_number c declarations first at lists size (Ok x) b g = at_code c declarations first at lists size
    x.0 x.1 (g x.0 x.1 refl) b (x.0 == 0) (not (at == first) && lists == 0)
at_number c declarations first at lists size (Err Truncated) b g = tt
at_number c declarations first at lists size (Err TooWide) b g = tt

at_end : (c : Within) (declarations : List Declaration) (first at lists : ℕ) (t : Bool)
    → nat_le (length c.unit) at ≡ t
    → Goes c at (length c.unit) (if t then (if at == first then Err (UnitRoot at 0)
    else (if lists == 0 then Ok nothing else Err (TreeOpen at)))
    else (code_at c.unit at >>= λ (code : ℕ × ℕ). if code.0 == 0 then (if at == first
    then Err (UnitRoot at 0) else Ok (null code.1)) else (if not (at == first) && lists == 0
    then Err (AfterRoot at) else (or_missing at code.0 (declaration_with code.0 declarations)
    >>= λ (r : Declaration). if at == first && not (is_root r.tag) then Err (UnitRoot at r.tag)
    else (of_form at (ends_at c r.specs code.1) >>= λ (end : ℕ). Ok (entry r code.1 end))))))
at_end c declarations first at lists true h = elim (at == first) as (λ (t : Bool).
    Goes c at (length c.unit) (if t then Err (UnitRoot at 0) else (if lists == 0 then Ok nothing
    else Err (TreeOpen at)))) [
      | true ↦ tt
      | false ↦ elim (lists == 0) as (λ (t : Bool). Goes c at
          (length c.unit) (if t then Ok nothing else Err (TreeOpen at))) [ true ↦ tt | false ↦ tt ]
    ]
at_end c declarations first at lists false h = at_number c declarations first at lists
    (length c.unit) (uleb_of c.unit at) (leb-false (length c.unit) at h)
    (λ (v end : ℕ) (e : uleb_of c.unit at ≡ Ok (v, end)). (uleb_after c.unit at v end e).0)

pub item_goes : (c : Within) (declarations : List Declaration) (first at lists : ℕ)
    → Goes c at (length c.unit) (item_at c declarations first at lists)
unfolding item_at
item_goes c declarations first at lists =
    at_end c declarations first at lists (nat_le (length c.unit) at) refl

-- enough fuel is as good as more
same_after : (c : Within) (at lists : ℕ) (f g : ℕ → ℕ → Coming) (r : Result Standing WalkFault)
    → Goes c at (length c.unit) r → ((end more : ℕ) → at < end → at < length c.unit
    → f end more ≡ g end more) → after_item c at lists f r ≡ after_item c at lists g r
same_after c at lists f g (Err e) h s = refl
same_after c at lists f g (Ok nothing) h s = refl
same_after c at lists f g (Ok (null end)) h s = s end (lists - 1) h.0 h.1
same_after c at lists f g (Ok (entry r from end)) h s = ap (λ (rest : Coming).
    with_first (given_at c r from at lists) rest) (s end (opened r lists) h.0 h.1)

pub enough : (c : Within) (declarations : List Declaration) (first n m at lists : ℕ)
    → length c.unit < n + at → length c.unit < m + at → 0 < n → 0 < m
    → coming c declarations first n at lists ≡ coming c declarations first m at lists
unfolding coming
enough c declarations first zero m at lists a b p q = absurd (omega arith)
enough c declarations first (suc n) zero at lists a b p q = absurd (omega arith)
enough c declarations first (suc n) (suc m) at lists a b p q =
    same_after c at lists (λ (next more : ℕ). coming c declarations first n next more)
    (λ (next more : ℕ). coming c declarations first m next more)
    (item_at c declarations first at lists) (item_goes c declarations first at lists)
    (λ (end more : ℕ) (lt : at < end) (within : at < length c.unit). enough c declarations first n
    m end more (omega arith) (omega arith) (omega arith) (omega arith))

pub one_item : (c : Within) (declarations : List Declaration) (first at lists : ℕ)
    → coming_from c declarations first at lists ≡ after_item c at lists (λ (next more : ℕ).
    coming_from c declarations first next more) (item_at c declarations first at lists)
unfolding coming
one_item c declarations first at lists =
    let e : length c.unit + 1 ≡ suc (length c.unit) = omega arith in
    let a : coming c declarations first (length c.unit + 1) at lists ≡ after_item c at lists
    (λ (next more : ℕ). coming c declarations first (length c.unit) next more)
    (item_at c declarations first at lists) = rw e refl in
    a ∙ same_after c at lists (λ (next more : ℕ). coming c declarations first
    (length c.unit) next more) (λ (next more : ℕ). coming_from c declarations first next more)
    (item_at c declarations first at lists) (item_goes c declarations first at lists)
    (λ (end more : ℕ) (lt : at < end) (within : at < length c.unit).
    enough c declarations first (length c.unit) (length c.unit + 1) end more (omega arith)
    (omega arith) (omega arith) (omega arith))

module _ (c : Within) (declarations : List Declaration) (first at lists : ℕ) where
  abbrev go : ℕ → ℕ → Coming
  go next more = coming_from c declarations first next more

  pub item_fails : (f : WalkFault) → Err f ≡ item_at c declarations first at lists
      → ended (Some f) ≡ coming_from c declarations first at lists
  item_fails f h = ap (after_item c at lists go) h ∙ sym (one_item c declarations first at lists)

  pub item_ends : Ok nothing ≡ item_at c declarations first at lists
      → ended None ≡ coming_from c declarations first at lists
  item_ends h = ap (after_item c at lists go) h ∙ sym (one_item c declarations first at lists)

  pub null_goes : (end : ℕ) → Ok (null end) ≡ item_at c declarations first at lists
      → coming_from c declarations first end (lists - 1) ≡ coming_from c declarations first at lists
  null_goes end h = ap (after_item c at lists go) h ∙ sym (one_item c declarations first at lists)

  pub null_after : (end : ℕ) → Ok (null end) ≡ item_at c declarations first at lists
      → (at < end) × (at < length c.unit)
  null_after end h =
      subst (Goes c at (length c.unit)) (sym h) (item_goes c declarations first at lists)

  pub entry_comes : (r : Declaration) (from end : ℕ) → Ok (entry r from end)
      ≡ item_at c declarations first at lists → with_first (given_at c r from at lists) (coming_from
      c declarations first end (opened r lists)) ≡ coming_from c declarations first at lists
  entry_comes r from end h =
      ap (after_item c at lists go) h ∙ sym (one_item c declarations first at lists)

  pub entry_after : (r : Declaration) (from end : ℕ)
      → Ok (entry r from end) ≡ item_at c declarations first at lists
      → (at < end) × (at < length c.unit) × (ends_at c r.specs from ≡ Ok end)
  entry_after r from end h =
      subst (Goes c at (length c.unit)) (sym h) (item_goes c declarations first at lists)

pub unit_length : (ctx : FormCtx) → length (within ctx).unit ≡ ctx.end
unit_length ctx = length-take-le ctx.end ctx.info.now ctx.inside

all_read : (q : Result (List (ℕ × Shown) × ℕ) FormFault) (end : ℕ) → end_of_values q ≡ Ok end
    → is_ok q ≡ true
all_read (Ok vs) end e = refl
all_read (Err f) end e = cc

pub values_read : (c : Within) (specs : List Spec) (from end : ℕ) → ends_at c specs from ≡ Ok end
    → is_ok (values_at c specs from) ≡ true
values_read c specs from end e = all_read (values_at c specs from) end e

-- each entry takes a byte
bounded : (c : Within) (at lists : ℕ) (go : ℕ → ℕ → Coming) (r : Result Standing WalkFault) → Goes c
    at (length c.unit) r → ((end more : ℕ) → length (go end more).entries ≤ length c.unit - end)
    → length (after_item c at lists go r).entries ≤ length c.unit - at
bounded c at lists go (Err f) h ih = omega arith
bounded c at lists go (Ok nothing) h ih = omega arith
bounded c at lists go (Ok (null end)) h ih = omega (arith, h.0, ih end (lists - 1))
bounded c at lists go (Ok (entry r from end)) h ih =
    omega (arith, h.0, h.1, ih end (opened r lists))

pub few_entries : (c : Within) (declarations : List Declaration) (first n at lists : ℕ)
    → length (coming c declarations first n at lists).entries ≤ length c.unit - at
unfolding coming
few_entries c declarations first zero at lists = omega arith
few_entries c declarations first (suc n) at lists =
    bounded c at lists (λ (next more : ℕ). coming c declarations first n next more)
    (item_at c declarations first at lists) (item_goes c declarations first at lists)
    (λ (end more : ℕ). few_entries c declarations first n end more)
