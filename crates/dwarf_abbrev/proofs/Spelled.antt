-- A table read is the table that the standard lays out.
use Rattle.std.proofs.Common.{◌≡◌, ◌≢◌, ℕ, zero, suc, ◌+◌, ◌<◌, ◌≤◌, ◌==◌, nat_lt, Bool, true}
use Rattle.std.proofs.Common.{false, List, [], ◌∷◌, ◌++◌, length, Option, None, Some, is_some}
use Rattle.std.proofs.Common.{Result, Ok, Err, if◌then◌else◌, refl, sym, ap, subst, ◌∙◌, arith}
use Rattle.std.specs.List.{slice_get}
use Rattle.std.proofs.lemmas.Bool.{ne_eqb, eqb-true, eqb-false, lt-ltb}
use Rattle.std.specs.Prelude.{◌⊎◌, ⊤}
use Rattle.std.proofs.Common.{inl, inr}
use Rattle.dw_base.specs.Leb128.{sleb_of}
use Rattle.dw_base.specs.Collect.{collect, Chain}
use Rattle.dw_base.proofs.Chains.{sound, complete}
use Rattle.dw_base.proofs.Ends.{ok_parts, uleb_after, sleb_after}
use Rattle.dw_base.proofs.Options.{none_if_not_some}
use Rattle.dwarf_abbrev.specs.declared.constants.TheConstants.{DW_FORM_implicit_const}
use Rattle.dwarf_abbrev.specs.declared.spec.Spec.{Spec}
use Rattle.dwarf_abbrev.specs.declared.fault.AbbrevFault.{AbbrevFault}
use Rattle.dwarf_abbrev.specs.declared.fault.AbbrevFault.TheVariants.{AbbrevTruncated, AbbrevTwice}
use Rattle.dwarf_abbrev.specs.declared.fault.AbbrevFault.TheVariants.{ChildrenByte}
use Rattle.dwarf_abbrev.specs.Declarations.{Declaration, place_of}
use Rattle.dwarf_abbrev.specs.Table.{◌>>=◌, number_at, spec_at, specs_of, flag_from, flag_at}
use Rattle.dwarf_abbrev.specs.Table.{declaration_at, table_at}
use Rattle.dwarf_abbrev.specs.Standard.{IsNumber, IsPlain, ArePairs, IsLast, IsDeclaration, IsNew}
use Rattle.dwarf_abbrev.specs.Standard.{IsTable}
use Rattle.dwarf_abbrev.proofs.Grow.{bind_ok, declaration_goes}
use Rattle.dwarf_abbrev.proofs.Placing.{not_later}
use Rattle.dwarf_abbrev.proofs.Steps.{number_is, number_gives, bind_gives, spec_is, pair_read}
use Rattle.dwarf_abbrev.proofs.Steps.{last_read}

-- pairs
abbrev pub step : List ℕ → ℕ → ℕ → List Spec → Result (Option Spec × ℕ) AbbrevFault
step bytes start place seen = spec_at bytes start place

pub spec_found : (bytes : List ℕ) (start at mid : ℕ) (o : Option Spec)
    → spec_at bytes start at ≡ Ok (o, mid) → (at < mid) × (at < length bytes)
spec_found bytes start at mid None e =
    let l = (spec_is bytes start at mid None e).last refl in
    let a = uleb_after bytes at 0 l.0 l.1 in
    let b = uleb_after bytes l.0 0 mid l.2 in
    (omega (arith, a.0, b.0), omega (arith, a.0, a.1))
spec_found bytes start at mid (Some s) e =
    let p = (spec_is bytes start at mid (Some s) e).pair s refl in
    let a = uleb_after bytes at s.attribute p.form_at p.attribute in
    let b = uleb_after bytes p.form_at s.form p.value_at p.form in
    let c : p.value_at ≤ mid = up p.value_at p.value in
    (omega (arith, a.0, b.0, c), omega (arith, a.0, a.1))
  where
    up : (value_at : ℕ)
        → ((s.form ≡ DW_FORM_implicit_const) × (sleb_of bytes value_at ≡ Ok (s.implicit, mid)))
        ⊎ (IsPlain s × (value_at ≡ mid)) → value_at ≤ mid
    up value_at (inl h) = let g = sleb_after bytes value_at s.implicit mid h.1 in omega (arith, g.0)
    up value_at (inr h) = omega (arith, h.1)

pairs_is : (bytes : List ℕ) (start at : ℕ) (seen ss : List Spec) (after : ℕ)
    → Chain (step bytes start) at seen ss after
    → (last_at : ℕ) × ArePairs bytes at ss last_at × IsLast bytes last_at after
pairs_is bytes start at seen [] after h =
    (at, refl, (spec_is bytes start at after None h).last refl)
pairs_is bytes start at seen (s ∷ ss) after h =
    let i = pairs_is bytes start h.0 (seen ++ s ∷ []) ss after h.2 in
    (i.0, (h.0, (spec_is bytes start at h.0 (Some s) h.1).pair s refl, i.1), i.2)

pairs_chain : (bytes : List ℕ) (start at : ℕ) (seen ss : List Spec) (last_at after : ℕ) → ArePairs
    bytes at ss last_at → IsLast bytes last_at after → Chain (step bytes start) at seen ss after
pairs_chain bytes start at seen [] last_at after h l =
    last_read bytes start at after (subst (λ (k : ℕ). IsLast bytes k after) (sym h) l)
pairs_chain bytes start at seen (s ∷ ss) last_at after h l = (
  h.0,
  pair_read bytes start at h.0 s
      h.1,
  pairs_chain bytes start h.0 (seen ++ s ∷ []) ss last_at after h.2 l,
)

pub specs_is : (bytes : List ℕ) (start at : ℕ) (ss : List Spec) (after : ℕ) → specs_of bytes start
    at ≡ Ok (ss, after) → (last_at : ℕ) × ArePairs bytes at ss last_at × IsLast bytes last_at after
specs_is bytes start at ss after e =
    let s = sound (step bytes start)
    (λ (place : ℕ). AbbrevTruncated start) (length bytes) at [] ss after e in
    pairs_is bytes start at [] ss after
    (subst (λ (xs : List Spec). Chain (step bytes start) at [] xs after) (sym s.1) s.2)

pub specs_read : (bytes : List ℕ) (start at : ℕ) (ss : List Spec) (last_at after : ℕ) → ArePairs
    bytes at ss last_at → IsLast bytes last_at after → specs_of bytes start at ≡ Ok (ss, after)
specs_read bytes start at ss last_at after h l =
    complete (step bytes start) (λ (place : ℕ). AbbrevTruncated start) (length bytes)
    (λ at mid seen o e. spec_found bytes start at mid o e) ss (length bytes) at [] after
    (omega arith) (pairs_chain bytes start at [] ss last_at after h l)

-- the children byte
abbrev pub children_byte : Bool → ℕ
children_byte c = if c then 1 else 0

flag_found : (start at : ℕ) (o : Option ℕ) (c : Bool) (after : ℕ)
    → flag_from start at o ≡ Ok (c, after) → (o ≡ Some (children_byte c)) × (after ≡ at + 1)
flag_found start at None c after e = cc
flag_found start at (Some zero) c after e = let p = ok_parts {F = AbbrevFault} false c
    (at + 1) after e in (ap (λ (c : Bool). Some (children_byte c)) p.0, sym p.1)
flag_found start at (Some (suc zero)) c after e = let p = ok_parts {F = AbbrevFault} true c
    (at + 1) after e in (ap (λ (c : Bool). Some (children_byte c)) p.0, sym p.1)
flag_found start at (Some (suc (suc n))) c after e =
    let t : nat_lt 1 (suc (suc n)) ≡ true = lt-ltb 1 (suc (suc n)) (omega arith) in
    let e' : ◌≡◌ {A = Result (Bool × ℕ) AbbrevFault} (Err (ChildrenByte at (suc (suc n))))
    (Ok (c, after)) = rw t at e in
    cc

pub flag_is : (bytes : List ℕ) (start at : ℕ) (c : Bool) (after : ℕ) → flag_at bytes start at
    ≡ Ok (c, after) → (slice_get bytes at ≡ Some (children_byte c)) × (after ≡ at + 1)
flag_is bytes start at c after e = flag_found start at (slice_get bytes at) c after e

flag_gives : (start at : ℕ) (c : Bool)
    → flag_from start at (Some (children_byte c)) ≡ Ok (c, at + 1)
flag_gives start at true = refl
flag_gives start at false = refl

pub flag_read : (bytes : List ℕ) (start at : ℕ) (c : Bool)
    → slice_get bytes at ≡ Some (children_byte c) → flag_at bytes start at ≡ Ok (c, at + 1)
flag_read bytes start at c h = ap (flag_from start at) h ∙ flag_gives start at c

-- a code that is new
pub none_new : (code : ℕ) (ds : List Declaration) → place_of code ds ≡ None → IsNew code ds
none_new code [] e = tt
none_new code (d ∷ ds) e = let p = not_later (d.code == code) (place_of code ds) e in
    (eqb-false d.code code p.0, none_new code ds p.1)

pub new_none : (code : ℕ) (ds : List Declaration) → IsNew code ds → place_of code ds ≡ None
new_none code [] h = refl
new_none code (d ∷ ds) h = rw (ne_eqb d.code code h.0, new_none code ds h.1) refl

-- an abbreviation
abbrev pub made : ℕ → ℕ → Bool → List Spec → Declaration
made code tag children specs = record { code = code; tag = tag; children = children; specs = specs }

abbrev pub after_children : List ℕ → ℕ → ℕ → ℕ → Bool × ℕ
    → Result (Option Declaration × ℕ) AbbrevFault
after_children bytes at code tag children = specs_of bytes at children.1
    >>= λ (specs : List Spec × ℕ). Ok (Some (made code tag children.0 specs.0), specs.1)

abbrev pub after_tag : List ℕ → ℕ → ℕ → ℕ × ℕ → Result (Option Declaration × ℕ) AbbrevFault
after_tag bytes at code tag = flag_at bytes at tag.1 >>= after_children bytes at code tag.0

abbrev pub after_code : List ℕ → ℕ → ℕ × ℕ → Result (Option Declaration × ℕ) AbbrevFault
after_code bytes at code = number_at bytes at code.1 >>= after_tag bytes at code.0

abbrev pub after_new : List ℕ → ℕ → ℕ × ℕ → Bool → Result (Option Declaration × ℕ) AbbrevFault
after_new bytes at code twice =
    if twice then Err (AbbrevTwice at code.0) else after_code bytes at code

abbrev pub after_start : List ℕ → ℕ → List Declaration → ℕ × ℕ
    → Result (Option Declaration × ℕ) AbbrevFault
after_start bytes at seen code = if code.0 == 0 then Ok (None, code.1)
    else after_new bytes at code (is_some (place_of code.0 seen))

-- what a step found, and how
pub record Found (bytes : List ℕ) (at : ℕ) (seen : List Declaration) (o : Option Declaration)
    (after : ℕ) : Type 0 where
  pub declaration : (d : Declaration) → o ≡ Some d
      → IsDeclaration bytes at d after × IsNew d.code seen
  pub none : o ≡ None → IsNumber bytes at 0 after

some_none : {A : Type 0} (a : A) → ◌≡◌ {A = Option A} (Some a) None → ⊥
some_none a e = cc

same_some : {A : Type 0} (a b : A) → ◌≡◌ {A = Option A} (Some a) (Some b) → a ≡ b
same_some a b e = cc

whole : (bytes : List ℕ) (at after : ℕ) (seen : List Declaration) (o : Option Declaration)
    (code : ℕ × ℕ) → IsNumber bytes at code.0 code.1 → code.0 ≢ 0 → IsNew code.0 seen
    → after_code bytes at code ≡ Ok (o, after) → Found bytes at seen o after
whole bytes at after seen o code n some new e =
    let a = bind_ok (number_at bytes at code.1) (after_tag bytes at code.0) (o, after) e in
    let b =
    bind_ok (flag_at bytes at a.0.1) (after_children bytes at code.0 a.0.0) (o, after) a.2 in
    let s = bind_ok (specs_of bytes at b.0.1) (λ (specs : List Spec × ℕ).
    Ok (Some (made code.0 a.0.0 b.0.0 specs.0), specs.1)) (o, after) b.2 in
    let f = flag_is bytes at a.0.1 b.0.0 b.0.1 b.1 in
    let p = specs_is bytes at b.0.1 s.0.0 s.0.1 s.1 in
    let q = ok_parts {F = AbbrevFault} (Some (made code.0 a.0.0 b.0.0 s.0.0)) o s.0.1 after s.2 in
    let pairs : ArePairs bytes (a.0.1 + 1) s.0.0 p.0 =
    subst (λ (k : ℕ). ArePairs bytes k s.0.0 p.0) f.1 p.1 in
    let last : IsLast bytes p.0 after = subst (λ (k : ℕ). IsLast bytes p.0 k) q.1 p.2 in
    let d : IsDeclaration bytes at (made code.0 a.0.0 b.0.0 s.0.0) after =
    record {
      tag_at = code.1;
      children_at = a.0.1;
      last_at = p.0;
      code = n;
      some = some;
      tag = number_is bytes at code.1 a.0 a.1;
      children = f.0;
      pairs = pairs;
      last = last;
    } in
    record {
      declaration = λ (x : Declaration) (h : o ≡ Some x).
          subst (λ (x : Declaration). IsDeclaration bytes at x after × IsNew x.code seen)
          (same_some (made code.0 a.0.0 b.0.0 s.0.0) x (q.0 ∙ h)) (d, new);
      none = λ (h : o ≡ None). absurd (some_none (made code.0 a.0.0 b.0.0 s.0.0) (q.0 ∙ h));
    }

by_twice : (bytes : List ℕ) (at after : ℕ) (seen : List Declaration) (o : Option Declaration)
    (code : ℕ × ℕ) (t : Bool) → IsNumber bytes at code.0 code.1 → code.0 ≢ 0
    → is_some (place_of code.0 seen) ≡ t → after_new bytes at code t ≡ Ok (o, after)
    → Found bytes at seen o after
by_twice bytes at after seen o code true n some t e = cc
by_twice bytes at after seen o code false n some t e = whole bytes at after seen o code n some
    (none_new code.0 seen (none_if_not_some (place_of code.0 seen) t)) e

by_code : (bytes : List ℕ) (at after : ℕ) (seen : List Declaration) (o : Option Declaration)
    (code : ℕ × ℕ) (t : Bool) → IsNumber bytes at code.0 code.1 → (code.0 == 0) ≡ t
    → (if t then Ok (None, code.1) else after_new bytes at code (is_some (place_of code.0 seen)))
    ≡ Ok (o, after) → Found bytes at seen o after
by_code bytes at after seen o code true n t e =
    let q = ok_parts {A = Option Declaration} {F = AbbrevFault} None o code.1 after e in
    let z : IsNumber bytes at 0 after = subst (λ (k : ℕ). IsNumber bytes at k after)
    (eqb-true code.0 0 t) (subst (λ (k : ℕ). IsNumber bytes at code.0 k) q.1 n) in
    record {
      declaration = λ (x : Declaration) (h : o ≡ Some x).
          absurd (some_none x (sym h ∙ sym q.0));
      none = λ (h : o ≡ None). z;
    }
by_code bytes at after seen o code false n t e = by_twice bytes at after seen o code
    (is_some (place_of code.0 seen)) n (eqb-false code.0 0 t) refl e

pub declaration_is : (bytes : List ℕ) (at after : ℕ) (seen : List Declaration) (o : Option
    Declaration) → declaration_at bytes at seen ≡ Ok (o, after) → Found bytes at seen o after
unfolding declaration_at
declaration_is bytes at after seen o e =
    let a = bind_ok (number_at bytes at at) (after_start bytes at seen) (o, after) e in
    by_code bytes at after seen o a.0 (a.0.0 == 0) (number_is bytes at at a.0 a.1) refl a.2

pub declaration_read : (bytes : List ℕ) (at after : ℕ) (seen : List Declaration) (d : Declaration)
    → IsDeclaration bytes at d after → IsNew d.code seen
    → declaration_at bytes at seen ≡ Ok (Some d, after)
unfolding declaration_at
declaration_read bytes at after seen d p new =
    let zero : (d.code == 0) ≡ false = ne_eqb d.code 0 p.some in
    let twice : is_some (place_of d.code seen) ≡ false =
    ap (λ (o : Option ℕ). is_some o) (new_none d.code seen new) in
    bind_gives (number_at bytes at at) (after_start bytes at seen) (d.code, p.tag_at)
    (number_gives bytes at at d.code p.tag_at p.code)
    ∙ ap (λ (t : Bool). if t then Ok (None, p.tag_at)
    else after_new bytes at (d.code, p.tag_at) (is_some (place_of d.code seen))) zero
    ∙ ap (λ (t : Bool). after_new bytes at (d.code, p.tag_at) t) twice
    ∙ bind_gives (number_at bytes at p.tag_at) (after_tag bytes at d.code) (d.tag, p.children_at)
    (number_gives bytes at p.tag_at d.tag p.children_at p.tag)
    ∙ bind_gives (flag_at bytes at p.children_at) (after_children bytes at d.code d.tag)
    (d.children, p.children_at + 1) (flag_read bytes at p.children_at d.children p.children)
    ∙ bind_gives (specs_of bytes at (p.children_at + 1)) (λ (specs : List Spec × ℕ).
    Ok (Some (made d.code d.tag d.children specs.0), specs.1)) (d.specs, after)
    (specs_read bytes at (p.children_at + 1) d.specs p.last_at after p.pairs p.last)

pub end_read : (bytes : List ℕ) (at after : ℕ) (seen : List Declaration) → IsNumber bytes at 0 after
    → declaration_at bytes at seen ≡ Ok (None, after)
unfolding declaration_at
end_read bytes at after seen n = bind_gives (number_at bytes at at) (after_start bytes at seen) (
  0,
  after,
) (number_gives bytes at at 0 after n)

-- the whole list: no code of it is one of those seen before
abbrev pub AreNew : List Declaration → List Declaration → Type 0
AreNew seen [] = ⊤
AreNew seen (d ∷ ds) = IsNew d.code seen × AreNew seen ds

left : (code : ℕ) (seen : List Declaration) (d : Declaration) → IsNew code (seen ++ d ∷ [])
    → IsNew code seen × (d.code ≢ code)
left code [] d h = (tt, h.0)
left code (x ∷ xs) d h = let i = left code xs d h.1 in ((h.0, i.0), i.1)

right : (code : ℕ) (seen : List Declaration) (d : Declaration) → IsNew code seen → d.code ≢ code
    → IsNew code (seen ++ d ∷ [])
right code [] d h n = (n, tt)
right code (x ∷ xs) d h n = (h.0, right code xs d h.1 n)

pub all_left : (seen : List Declaration) (d : Declaration) (ds : List Declaration)
    → AreNew (seen ++ d ∷ []) ds → AreNew seen ds × IsNew d.code ds
all_left seen d [] h = (tt, tt)
all_left seen d (x ∷ xs) h =
    let a = left x.code seen d h.0 in
    let i = all_left seen d xs h.1 in
    ((a.0, i.0), (λ (e : x.code ≡ d.code). a.1 (sym e), i.1))

pub all_right : (seen : List Declaration) (d : Declaration) (ds : List Declaration) → AreNew seen ds
    → IsNew d.code ds → AreNew (seen ++ d ∷ []) ds
all_right seen d [] h n = tt
all_right seen d (x ∷ xs) h n =
    (right x.code seen d h.0 (λ (e : d.code ≡ x.code). n.0 (sym e)), all_right seen d xs h.1 n.1)

pub chain_table : (bytes : List ℕ) (at : ℕ) (seen ds : List Declaration) (after : ℕ)
    → Chain (declaration_at bytes) at seen ds after → IsTable bytes at ds × AreNew seen ds
chain_table bytes at seen [] after h =
    ((after, (declaration_is bytes at after seen None h).none refl), tt)
chain_table bytes at seen (d ∷ ds) after h =
    let f = (declaration_is bytes at h.0 seen (Some d) h.1).declaration d refl in
    let i = chain_table bytes h.0 (seen ++ d ∷ []) ds after h.2 in
    let n = all_left seen d ds i.1 in
    ((h.0, f.0, n.1, i.0), (f.1, n.0))

pub table_chain : (bytes : List ℕ) (at : ℕ) (seen ds : List Declaration) → IsTable bytes at ds
    → AreNew seen ds → (after : ℕ) × Chain (declaration_at bytes) at seen ds after
table_chain bytes at seen [] h n = (h.0, end_read bytes at h.0 seen h.1)
table_chain bytes at seen (d ∷ ds) h n =
    let i = table_chain bytes h.0 (seen ++ d ∷ []) ds h.3 (all_right seen d ds n.1 h.2) in
    (i.0, (h.0, declaration_read bytes at h.0 seen d h.1 n.0, i.1))

pub none_seen : (ds : List Declaration) → AreNew [] ds
none_seen [] = tt
none_seen (d ∷ ds) = (tt, none_seen ds)

same : (a b : List Declaration)
    → ◌≡◌ {A = Result (List Declaration) AbbrevFault} (Ok a) (Ok b) → a ≡ b
same a b e = cc

pub read : (bytes : List ℕ) (at : ℕ) (declarations : List Declaration)
    → table_at bytes at ≡ Ok declarations → IsTable bytes at declarations
unfolding table_at
read bytes at declarations e =
    let b = bind_ok (collect (declaration_at bytes) AbbrevTruncated (length bytes) at [])
    (λ (x : List Declaration × ℕ). Ok x.0) declarations e in
    let s = sound (declaration_at bytes) AbbrevTruncated (length bytes) at [] b.0.0 b.0.1 b.1 in
    let q : s.0 ≡ declarations = sym s.1 ∙ same b.0.0 declarations b.2 in
    (chain_table bytes at [] declarations b.0.1
    (subst (λ (ds : List Declaration). Chain (declaration_at bytes) at [] ds b.0.1) q s.2)).0

pub spelled : (bytes : List ℕ) (at : ℕ) (declarations : List Declaration)
    → IsTable bytes at declarations → table_at bytes at ≡ Ok declarations
unfolding table_at
spelled bytes at declarations h =
    let t = table_chain bytes at [] declarations h (none_seen declarations) in
    let c = complete (declaration_at bytes) AbbrevTruncated (length bytes)
    (λ at mid seen o e. declaration_goes bytes at mid seen o e) declarations (length bytes) at
    [] t.0 (omega arith) t.1 in
    ap (λ (r : Result (List Declaration × ℕ) AbbrevFault). r
    >>= λ (x : List Declaration × ℕ). Ok x.0) c
