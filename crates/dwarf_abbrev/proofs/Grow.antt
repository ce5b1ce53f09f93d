-- The place after an abbreviation is after its own.
use Rattle.std.proofs.Common.{◌≡◌, ℕ, zero, suc, ◌+◌, ◌<◌, ◌≤◌, ◌==◌, ◌&&◌, ℤ, pos, nat_lt, Bool}
use Rattle.std.proofs.Common.{true, false, List, [], ◌∷◌, ◌++◌, length, Option, None, Some, is_some}
use Rattle.std.proofs.Common.{Result, Ok, Err, if◌then◌else◌, refl, arith}
use Rattle.std.specs.List.{slice_get}
use Rattle.dw_base.specs.Leb128.{uleb_of, sleb_of}
use Rattle.dw_base.specs.Collect.{collect, gone_on}
use Rattle.dw_base.specs.declared.leb128.LebFault.{LebFault}
use Rattle.dw_base.specs.declared.leb128.LebFault.TheVariants.{Truncated, TooWide}
use Rattle.dw_base.proofs.Ends.{ok_parts, uleb_after, sleb_after}
use Rattle.dwarf_abbrev.specs.declared.spec.Spec.{Spec}
use Rattle.dwarf_abbrev.specs.declared.fault.AbbrevFault.{AbbrevFault}
use Rattle.dwarf_abbrev.specs.declared.fault.AbbrevFault.TheVariants.{AbbrevTruncated, AbbrevTwice}
use Rattle.dwarf_abbrev.specs.declared.fault.AbbrevFault.TheVariants.{ChildrenByte}
use Rattle.dwarf_abbrev.specs.Declarations.{Declaration, place_of}
use Rattle.dwarf_abbrev.specs.Table.{◌>>=◌, of_leb, number_at, signed_at, spec_at, specs_of}
use Rattle.dwarf_abbrev.specs.Table.{flag_from, flag_at, declaration_at}

pub bind_ok : {A B : Type 0} (r : Result A AbbrevFault) (f : A → Result B AbbrevFault) (y : B)
    → (r >>= f) ≡ Ok y → (x : A) × (r ≡ Ok x) × (f x ≡ Ok y)
bind_ok (Ok x) f y e = (x, refl, e)
bind_ok (Err d) f y e = cc

abbrev pub Up : {A : Type 0} → ℕ → Result (A × ℕ) AbbrevFault → Type 0
Up {A} at r = (v : A) (end : ℕ) → r ≡ Ok (v, end) → at ≤ end

up_on : {A B : Type 0} (at : ℕ) (r : Result (A × ℕ) AbbrevFault) (f : A × ℕ
    → Result (B × ℕ) AbbrevFault) → Up at r → ((x : A × ℕ) → Up x.1 (f x)) → Up at (r >>= f)
up_on at r f first after v end e =
    let b = bind_ok r f (v, end) e in
    let p : at ≤ b.0.1 = first b.0.0 b.0.1 b.1 in
    let q : b.0.1 ≤ end = after b.0 v end b.2 in
    omega arith

ups : {A : Type 0} (at : ℕ) (v : A) (end : ℕ) → at ≤ end → Up at (Ok (v, end))
ups at v end le w to e = let p = ok_parts {F = AbbrevFault} v w end to e in omega (arith, p.1)

either : {A : Type 0} (at : ℕ) (t : Bool) (x y : Result (A × ℕ) AbbrevFault) → Up at x → Up at y
    → Up at (if t then x else y)
either at true x y a b v end e = a v end e
either at false x y a b v end e = b v end e

leb_up : {A : Type 0} (start at : ℕ) (r : Result (A × ℕ) LebFault)
    → ((v : A) (end : ℕ) → r ≡ Ok (v, end) → at < end) → Up (at + 1) (of_leb start at r)
leb_up start at (Ok x) f v end e = let p = ok_parts {F = AbbrevFault} x.0 v x.1 end e in let q =
    f x.0 x.1 refl in omega (arith, p.1)
leb_up start at (Err Truncated) f v end e = cc
leb_up start at (Err TooWide) f v end e = cc

number_up : (bytes : List ℕ) (start at : ℕ) → Up (at + 1) (number_at bytes start at)
number_up bytes start at = leb_up start at (uleb_of bytes at)
    (λ (v end : ℕ) (e : uleb_of bytes at ≡ Ok (v, end)). (uleb_after bytes at v end e).0)

signed_up : (bytes : List ℕ) (start at : ℕ) → Up (at + 1) (signed_at bytes start at)
signed_up bytes start at = leb_up start at (sleb_of bytes at)
    (λ (v : ℤ) (end : ℕ) (e : sleb_of bytes at ≡ Ok (v, end)). (sleb_after bytes at v end e).0)

lower : {A : Type 0} (at : ℕ) (r : Result (A × ℕ) AbbrevFault) → Up (at + 1) r → Up at r
lower at r u v end e = let p = u v end e in omega arith

abbrev made_of : ℕ → ℕ → ℤ → Option Spec
made_of name form value = Some (record { attribute = name; form = form; implicit = value })

abbrev rest : List ℕ → ℕ → ℕ × ℕ → ℕ × ℕ → Result (Option Spec × ℕ) AbbrevFault
rest bytes start name form = if form.0 == 0x21 then (signed_at bytes start form.1
    >>= λ (value : ℤ × ℕ). Ok (made_of name.0 form.0 value.0, value.1)) else (if name.0 == 0
    && form.0 == 0 then Ok (None, form.1) else Ok (made_of name.0 form.0 (pos 0), form.1))

spec_up : (bytes : List ℕ) (start at : ℕ) → Up at (spec_at bytes start at)
unfolding spec_at
spec_up bytes start at =
    up_on at (number_at bytes start at)
    (λ (name : ℕ × ℕ). number_at bytes start name.1 >>= λ (form : ℕ × ℕ).
    rest bytes start name form) (lower at (number_at bytes start at) (number_up bytes start at))
    (λ (name : ℕ × ℕ).
    up_on name.1 (number_at bytes start name.1) (λ (form : ℕ × ℕ). rest bytes start name form)
    (lower name.1 (number_at bytes start name.1) (number_up bytes start name.1))
    (λ (form : ℕ × ℕ). either form.1 (form.0 == 0x21) (signed_at bytes start form.1
    >>= λ (value : ℤ × ℕ). Ok (made_of name.0 form.0 value.0, value.1)) (if name.0 == 0
    && form.0 == 0 then Ok (None, form.1) else Ok (made_of name.0 form.0 (pos 0), form.1))
    (up_on form.1 (signed_at bytes start form.1)
    (λ (value : ℤ × ℕ). Ok (made_of name.0 form.0 value.0, value.1))
    (lower form.1 (signed_at bytes start form.1) (signed_up bytes start form.1))
    (λ (value : ℤ × ℕ). ups value.1 (made_of name.0 form.0 value.0) value.1 (omega arith)))
    (either form.1 (name.0 == 0 && form.0 == 0) (Ok (None, form.1))
    (Ok (made_of name.0 form.0 (pos 0), form.1)) (ups form.1 None form.1 (omega arith))
    (ups form.1 (made_of name.0 form.0 (pos 0)) form.1 (omega arith)))))

-- items that do not go back
item_up : {X : Type 0} (at : ℕ) (seen : List X) (r : Result (Option X × ℕ) AbbrevFault) (go : ℕ
    → List X → Result (List X × ℕ) AbbrevFault) → Up at r
    → ((mid : ℕ) (more : List X) → Up mid (go mid more)) → Up at (gone_on r seen go)
item_up at seen (Err f) go u g v end e = cc
item_up {X} at seen (Ok s) go u g v end e = by s.0 refl e
  where
    by : (o : Option X) → s.0 ≡ o → ◌≡◌ {A = Result (List X × ℕ) AbbrevFault} (elim o
        [ None ↦ Ok (seen, s.1) | Some x ↦ go s.1 (seen ++ x ∷ []) ]) (Ok (v, end)) → at ≤ end
    by None k h = let p = ok_parts {F = AbbrevFault} seen v s.1 end h in let q : at ≤ s.1 =
        u s.0 s.1 refl in omega (arith, p.1)
    by (Some x) k h = let q : at ≤ s.1 = u s.0 s.1 refl in let p =
        g s.1 (seen ++ x ∷ []) v end h in omega arith

collect_up : {X : Type 0} (step : ℕ → List X → Result (Option X × ℕ) AbbrevFault) (cut : ℕ
    → AbbrevFault) → ((at : ℕ) (seen : List X) → Up at (step at seen)) → (n at : ℕ) (seen : List X)
    → Up at (collect step cut n at seen)
unfolding collect
collect_up step cut u zero at seen v end e = cc
collect_up {X} step cut u (suc n) at seen v end e =
    item_up at seen (step at seen) (λ (mid : ℕ) (more : List X). collect step cut n mid more)
    (u at seen) (λ (mid : ℕ) (more : List X). collect_up step cut u n mid more) v end e

specs_up : (bytes : List ℕ) (start at : ℕ) → Up at (specs_of bytes start at)
specs_up bytes start at = collect_up (λ (place : ℕ) (seen : List Spec). spec_at bytes start place)
    (λ (place : ℕ). AbbrevTruncated start)
    (λ (place : ℕ) (seen : List Spec). spec_up bytes start place) (length bytes) at []

flag_up : (start at : ℕ) (o : Option ℕ) → Up at (flag_from start at o)
flag_up start at None v end e = cc
flag_up start at (Some b) v end e = either at (nat_lt 1 b) (Err (ChildrenByte at b)) (Ok (
  b == 1,
  at + 1,
)) (never at (ChildrenByte at b)) (ups at (b == 1) (at + 1) (omega arith)) v end e
  where
    never : (at : ℕ) (f : AbbrevFault) → Up {A = Bool} at (Err f)
    never at f v end e = cc

abbrev made_declaration : ℕ → ℕ → Bool → List Spec → Option Declaration
made_declaration code tag children specs =
    Some (record { code = code; tag = tag; children = children; specs = specs })

abbrev body : List ℕ → ℕ → ℕ × ℕ → Result (Option Declaration × ℕ) AbbrevFault
body bytes at code =
    number_at bytes at code.1 >>= λ (tag : ℕ × ℕ).
    flag_at bytes at tag.1 >>= λ (children : Bool × ℕ).
    specs_of bytes at children.1 >>= λ (specs : List Spec × ℕ).
    Ok (made_declaration code.0 tag.0 children.0 specs.0, specs.1)

body_up : (bytes : List ℕ) (at : ℕ) (code : ℕ × ℕ) → Up code.1 (body bytes at code)
body_up bytes at code =
    up_on code.1 (number_at bytes at code.1) (λ (tag : ℕ × ℕ). flag_at bytes at tag.1
    >>= λ (children : Bool × ℕ). specs_of bytes at children.1 >>= λ (specs : List Spec × ℕ).
    Ok (made_declaration code.0 tag.0 children.0 specs.0, specs.1))
    (lower code.1 (number_at bytes at code.1) (number_up bytes at code.1))
    (λ (tag : ℕ × ℕ). up_on tag.1 (flag_at bytes at tag.1) (λ (children : Bool × ℕ).
    specs_of bytes at children.1 >>= λ (specs : List Spec × ℕ). Ok (
      made_declaration code.0
          tag.0 children.0 specs.0,
      specs.1,
    )) (flag_up at tag.1 (slice_get bytes tag.1))
    (λ (children : Bool × ℕ). up_on children.1 (specs_of bytes at children.1)
    (λ (specs : List Spec × ℕ). Ok (made_declaration code.0 tag.0 children.0 specs.0, specs.1))
    (specs_up bytes at children.1)
    (λ (specs : List Spec × ℕ).
    ups specs.1 (made_declaration code.0 tag.0 children.0 specs.0) specs.1 (omega arith))))

no_declaration_up : (at : ℕ) (f : AbbrevFault) → Up {A = Option Declaration} at (Err f)
no_declaration_up at f v end e = cc

leb_inside : (bytes : List ℕ) (start at v end : ℕ) (r : Result (ℕ × ℕ) LebFault)
    → uleb_of bytes at ≡ r → of_leb start at r ≡ Ok (v, end) → at < length bytes
leb_inside bytes start at v end (Ok x) h e = let p = uleb_after bytes at x.0 x.1 h in
    omega (arith, p.0, p.1)
leb_inside bytes start at v end (Err Truncated) h e = cc
leb_inside bytes start at v end (Err TooWide) h e = cc

pub declaration_goes : (bytes : List ℕ) (at mid : ℕ) (seen : List Declaration) (o : Option
    Declaration) → declaration_at bytes at seen ≡ Ok (o, mid) → (at < mid) × (at < length bytes)
unfolding declaration_at
declaration_goes bytes at mid seen o e =
    let f : ℕ × ℕ → Result (Option Declaration × ℕ) AbbrevFault = λ (code : ℕ × ℕ). if code.0 == 0
    then Ok (None, code.1) else (if is_some (place_of code.0 seen)
    then Err (AbbrevTwice at code.0) else body bytes at code) in
    let b = bind_ok (number_at bytes at at) f (o, mid) e in
    let p : at + 1 ≤ b.0.1 = number_up bytes at at b.0.0 b.0.1 b.1 in
    let q : b.0.1 ≤ mid =
    either b.0.1 (b.0.0 == 0) (Ok (None, b.0.1)) (if is_some (place_of b.0.0 seen)
    then Err (AbbrevTwice at b.0.0) else body bytes at b.0) (ups b.0.1 None b.0.1 (omega arith))
    (either b.0.1 (is_some (place_of b.0.0 seen)) (Err (AbbrevTwice at b.0.0)) (body bytes at b.0)
    (no_declaration_up b.0.1 (AbbrevTwice at b.0.0)) (body_up bytes at b.0)) o mid b.2 in
    (omega arith, leb_inside bytes at at b.0.0 b.0.1 (uleb_of bytes at) refl b.1)
