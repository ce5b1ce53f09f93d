-- Structures that are shown, and their members without a size.
use Rattle.std.proofs.Common.{◌≡◌, ◌<◌, ◌⊎◌, ◌&&◌, ◌||◌, not, ℕ, suc, Bool, true, false, eqb, List}
use Rattle.std.proofs.Common.{Option, None, Some, inl, inr, refl, sym, ap, ◌∙◌, subst, arith}
use Rattle.std.proofs.Common.{length, get_or, is_none, if◌then◌else◌, slice_get}
use Rattle.std.specs.Option.{option_and_then, option_map, option_map_or}
use Rattle.std.proofs.lemmas.Bool.{eqb-true}
use Rattle.std.proofs.lemmas.Option.{slice_get_within, slice_get-get_or, same_Some}
use Rattle.btf_codec.specs.Fields.{id_of, target_at}
use Rattle.c_model.specs.declared.kinds.TheConstants.{BTF_KIND_STRUCT, BTF_KIND_UNION}
use Rattle.c_model.specs.declared.kinds.TheConstants.{BTF_KIND_TYPEDEF}
use Rattle.c_model.specs.declared.label.Part.{Part}
use Rattle.c_model.specs.declared.graph.CType.{CType}
use Rattle.c_model.specs.declared.graph.Ref.{Ref}
use Rattle.c_model.specs.declared.graph.Ref.TheVariants.{Void, Node}
use Rattle.layout_printer.specs.Layout.{bits_of, IsSlotAt, IsLayout, LacksSize, IsFirstLacking}
use Rattle.layout_printer.specs.Layout.{IsStructure}
use Rattle.layout_printer.specs.declared.slots.TypeLayout.{TypeLayout}
use Rattle.shown_types.specs.Listed.{is_structure, is_named, nameless_by, nameless_at, structure_by}
use Rattle.shown_types.specs.Listed.{structure_at}
use Rattle.shown_types.specs.Shown.{value_at, lacks, unsized_member, no_size, IsShown}
use Rattle.shown_types.proofs.Ranges.{find_none, find_at}

-- a structure or union is there
abbrev Found : List CType → ℕ → Type 0
Found types s = (u : CType) × (slice_get types s ≡ Some u) × (is_structure u ≡ true)

nameless_found :
    (types : List CType) (y s : ℕ) (u : CType) (b c : Bool) → slice_get types y ≡ Some u
    → is_structure u ≡ b
    → (if b && not c then Some y else None) ≡ Some s → Found types s
nameless_found types y s u true false at e h =
    (u, subst (λ (k : ℕ). slice_get types k ≡ Some u) (same_Some y s h) at, e)
nameless_found types y s u true true at e h = absurd (cc)
nameless_found types y s u false true at e h = absurd (cc)
nameless_found types y s u false false at e h = absurd (cc)

nameless_near :
    (types : List CType) (y s : ℕ) (o : Option CType) → slice_get types y ≡ o
    → option_and_then (nameless_by y) o ≡ Some s
    → Found types s
nameless_near types y s None at h = absurd (cc)
nameless_near types y s (Some u) at h =
    nameless_found types y s u (is_structure u) (is_named u) at refl h

target_found : (types : List CType) (r : Ref) (s : ℕ) → nameless_at types r ≡ Some s → Found types s
target_found types Void s h = absurd (cc)
target_found types (Node y) s h = nameless_near types y s (slice_get types y) refl h

by_found :
    (types : List CType) (x s : ℕ) (t : CType) (b c d : Bool) → slice_get types x ≡ Some t
    → is_structure t ≡ b
    → (if b then (if c then Some x else None) else if d
    then nameless_at types (target_at t.targets 0) else None) ≡ Some s
    → Found types s
by_found types x s t true true d at e h =
    (t, subst (λ (k : ℕ). slice_get types k ≡ Some t) (same_Some x s h) at, e)
by_found types x s t true false d at e h = absurd (cc)
by_found types x s t false c true at e h = target_found types (target_at t.targets 0) s h
by_found types x s t false c false at e h = absurd (cc)

near_found :
    (types : List CType) (x s : ℕ) (o : Option CType) → slice_get types x ≡ o
    → option_and_then (structure_by types x) o ≡ Some s
    → Found types s
near_found types x s None at h = absurd (cc)
near_found types x s (Some t) at h =
    by_found types x s t (is_structure t) (is_named t) (eqb t.label.kind BTF_KIND_TYPEDEF) at refl h

structure_found : (types : List CType) (x s : ℕ) → structure_at types x ≡ Some s → Found types s
structure_found types x s h = near_found types x s (slice_get types x) refl h

either : (k : ℕ) (b c : Bool) → (eqb k BTF_KIND_STRUCT ≡ b) → (eqb k BTF_KIND_UNION ≡ c)
    → (b || c) ≡ true → (k ≡ BTF_KIND_STRUCT) ⊎ (k ≡ BTF_KIND_UNION)
either k true c e f h = inl (eqb-true k BTF_KIND_STRUCT e)
either k false true e f h = inr (eqb-true k BTF_KIND_UNION f)
either k false false e f h = absurd (cc)

pub structure_there : (types : List CType) (x s : ℕ) → structure_at types x ≡ Some s
    → IsStructure types (suc s)
structure_there types x s h =
    let found : Found types s = structure_found types x s h in
    record {
      t = found.0;
      found = found.1;
      kind = either found.0.label.kind (eqb found.0.label.kind BTF_KIND_STRUCT)
          (eqb found.0.label.kind BTF_KIND_UNION) refl refl found.2;
    }

-- a member that has its part

value_is : (parts : List Part) (k : ℕ) (p : Part) → slice_get parts k ≡ Some p
    → value_at parts k ≡ p.value
value_is parts k p e = ap (λ (o : Option Part). option_map_or (λ (q : Part). q.value) o 0) e

lacks_not :
    (types : List CType) (pointer : ℕ) (t : CType) (k n : ℕ) (p : Part)
    → slice_get t.label.parts k ≡ Some p
    → bits_of types pointer t.label.flag p.value (target_at t.targets k) ≡ Some n
    → lacks types pointer t k ≡ false
lacks_not types pointer t k n p at e =
    ap (λ (v : ℕ). is_none (bits_of types pointer t.label.flag v (target_at t.targets k)))
    (value_is t.label.parts k p at)
    ∙ ap (λ (o : Option ℕ). is_none o) e

no_size_at :
    (types : List CType) (pointer x s : ℕ) (t : CType)
    → structure_at types x ≡ Some s → slice_get types s ≡ Some t
    → no_size types pointer x ≡ unsized_member types pointer t
unfolding no_size
no_size_at types pointer x s t is at =
    ap (λ (o : Option ℕ).
    option_and_then (unsized_member types pointer) (option_and_then (slice_get types) o)) is
    ∙ ap (λ (o : Option CType). option_and_then (unsized_member types pointer) o) at

pub laid_out :
    (types : List CType) (pointer x s : ℕ) (shown : TypeLayout)
    → structure_at types x ≡ Some s → IsLayout types pointer (suc s) shown
    → (no_size types pointer x ≡ None) × IsShown types pointer x shown
laid_out types pointer x s shown is l = (
  no_size_at types pointer x s l.t is l.found
      ∙ ap (λ (o : Option ℕ). option_map (λ (k : ℕ). id_of (target_at l.t.targets k)) o)
      (find_none (lacks types pointer l.t) 0 (length l.t.label.parts)
      (λ k le lt.
      let at : IsSlotAt types pointer l.t shown.slots k = l.slots.each k (omega arith) in
      lacks_not types pointer l.t k at.slot.bits at.part at.here at.is.bits)),
  record { structure = s; is = is; layout = l },
)

lacks_so :
    (types : List CType) (pointer : ℕ) (t : CType) (k : ℕ) → LacksSize types pointer t k
    → lacks types pointer t k ≡ true
lacks_so types pointer t k l =
    ap (λ (v : ℕ). is_none (bits_of types pointer t.label.flag v (target_at t.targets k)))
    (value_is t.label.parts k l.part l.here)
    ∙ ap (λ (o : Option ℕ). is_none o) l.none

none_of : (o : Option ℕ) → is_none o ≡ true → o ≡ None
none_of None h = refl
none_of (Some n) h = absurd (cc)

so_lacks :
    (types : List CType) (pointer : ℕ) (t : CType) (k : ℕ) (p : Part)
    → slice_get t.label.parts k ≡ Some p
    → lacks types pointer t k ≡ true → LacksSize types pointer t k
so_lacks types pointer t k p at h =
    record {
      part = p;
      here = at;
      none =
          none_of (bits_of types pointer t.label.flag p.value (target_at t.targets k))
          (ap (λ (v : ℕ). is_none (bits_of types pointer t.label.flag v (target_at t.targets k)))
          (sym (value_is t.label.parts k p at)) ∙ h);
    }

first_not :
    (types : List CType) (pointer : ℕ) (t : CType) (j : ℕ) (d : Part) (b : Bool)
    → j < length t.label.parts
    → (LacksSize types pointer t j → ⊥) → lacks types pointer t j ≡ b → b ≡ false
first_not types pointer t j d true lt never e =
    absurd (never (so_lacks types pointer t j (get_or t.label.parts j d)
    (slice_get-get_or t.label.parts j d lt) e))
first_not types pointer t j d false lt never e = refl

pub lacking :
    (types : List CType) (pointer x s n : ℕ) (t : CType)
    → structure_at types x ≡ Some s → slice_get types s ≡ Some t → IsFirstLacking types pointer t n
    → no_size types pointer x ≡ Some n
lacking types pointer x s n t is at l =
    let lt : l.k < length t.label.parts =
    slice_get_within t.label.parts l.k l.lacks.part l.lacks.here in
    no_size_at types pointer x s t is at
    ∙ ap (λ (o : Option ℕ). option_map (λ (k : ℕ). id_of (target_at t.targets k)) o)
    (find_at (lacks types pointer t) 0 (length t.label.parts) l.k (omega arith) (omega arith)
    (lacks_so types pointer t l.k l.lacks)
    (λ j le below.
    first_not types pointer t j l.lacks.part (lacks types pointer t j) (omega arith)
    (l.first j below) refl))
    ∙ ap (λ (i : ℕ). Some i) (sym l.named)
