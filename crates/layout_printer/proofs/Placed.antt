-- Slots, one more at a time.
use Rattle.std.proofs.Common.{◌≡◌, ℕ, zero, suc, ◌+◌, ◌*◌, ◌-◌, ◌<◌, ◌≤◌, Bool, List, [], ◌∷◌, ◌++◌}
use Rattle.std.proofs.Common.{Some, None, length, get_or, refl, sym, ap, ◌∙◌, subst, arith}
use Rattle.std.proofs.Common.{below_more}
use Rattle.std.proofs.lemmas.List.{take-append-le, take_at}
use Rattle.std.proofs.lemmas.Option.{none-some, slice_get_read, slice_get_within, same_Some}
use Rattle.std.proofs.lemmas.Bool.{cond-true, cond-false, lt-ltb, le-ltb}
use Rattle.std.specs.List.{slice_get}
use Rattle.std.specs.Option.{option_map}
use Rattle.c_model.specs.declared.label.Part.{Part}
use Rattle.c_model.specs.declared.graph.CType.{CType}
use Rattle.c_model.specs.declared.graph.Ref.{Ref}
use Rattle.btf_codec.specs.Fields.{id_of, target_at}
use Rattle.layout_printer.specs.Sizes.{ref_of, size_of, type_of}
use Rattle.layout_printer.specs.Layout.{IsSlot, IsSlotAt, IsFirstLacking, LacksSize, bits_of}
use Rattle.layout_printer.specs.Layout.{width_of}
use Rattle.layout_printer.specs.declared.slots.Slot.{Slot}

pub slice_get_left : {X : Type 0} → (xs ys : List X) (k : ℕ) → k < length xs
    → slice_get (xs ++ ys) k ≡ slice_get xs k
slice_get_left [] ys k h = absurd (omega arith)
slice_get_left (x ∷ xs) ys zero h = refl
slice_get_left (x ∷ xs) ys (suc k) h = slice_get_left xs ys k (omega arith)

pub slice_get_new : {X : Type 0} → (xs : List X) (y : X) (k : ℕ) → length xs ≡ k
    → slice_get (xs ++ y ∷ []) k ≡ Some y
slice_get_new [] y zero h = refl
slice_get_new [] y (suc k) h = absurd (omega arith)
slice_get_new (x ∷ xs) y zero h = absurd (omega arith)
slice_get_new (x ∷ xs) y (suc k) h = slice_get_new xs y k (omega arith)

module _ (types : List CType) (pointer : ℕ) (t : CType) where
  -- a slot that stands keeps its place
  kept : (slots : List Slot) (new : Slot) (j : ℕ) → j < length slots
      → IsSlotAt types pointer t slots j → IsSlotAt types pointer t (slots ++ new ∷ []) j
  kept slots new j h a = record {
    part = a.part;
    here = a.here;
    slot = a.slot;
    there = slice_get_left slots (new ∷ []) j h ∙ a.there;
    is = subst (λ (earlier : List Slot).
        IsSlot types pointer t.label.flag earlier a.part.value (target_at t.targets j) a.slot)
        (sym (take-append-le j slots (new ∷ []) (omega arith))) a.is;
  }

  -- the slots with one more
  pub slots_more : (slots : List Slot) (new : Slot) (part : Part) (k : ℕ) → length slots ≡ k
      → slice_get t.label.parts k ≡ Some part
      → ((j : ℕ) → j < k → IsSlotAt types pointer t slots j)
      → IsSlot types pointer t.label.flag slots part.value (target_at t.targets k) new
      → (j : ℕ) → j < k + 1 → IsSlotAt types pointer t (slots ++ new ∷ []) j
  slots_more slots new part k count here each is =
      below_more (λ (j : ℕ). IsSlotAt types pointer t (slots ++ new ∷ []) j) k
      (λ (j : ℕ) (h : j < k). kept slots new j (omega arith) (each j h))
      (record {
        part = part;
        here = here;
        slot = new;
        there = slice_get_new slots new k count;
        is = subst (λ (earlier : List Slot). IsSlot types pointer t.label.flag earlier part.value
            (target_at t.targets k) new) (sym (take_at slots (new ∷ []) k count)) is;
      })

  -- a member with a slot has a size
  not_lacking : (slots : List Slot) (j : ℕ) → IsSlotAt types pointer t slots j
      → LacksSize types pointer t j → ⊥
  not_lacking slots j a l =
      let same : a.part ≡ l.part = same_Some a.part l.part (sym a.here ∙ l.here) in
      none-some a.slot.bits (sym l.none ∙ ap (λ (p : Part). bits_of types pointer t.label.flag
      p.value (target_at t.targets j)) (sym same) ∙ a.is.bits)

  pub first_lacking : (slots : List Slot) (part : Part) (k n : ℕ)
      → slice_get t.label.parts k ≡ Some part → ((j : ℕ) → j < k → IsSlotAt types pointer t slots j)
      → (bits_of types pointer t.label.flag part.value (target_at t.targets k) ≡ None)
      × (n ≡ id_of (target_at t.targets k)) → IsFirstLacking types pointer t n
  first_lacking slots part k n here each l = record {
    k = k;
    lacks = record { part = part; here = here; none = l.0 };
    first = λ (j : ℕ) (h : j < k). not_lacking slots j (each j h);
    named = l.1;
  }

-- a part that is read
pub part_read : (parts read : List Part) (k : ℕ) (part : Part) → read ≡ parts → k < length read
    → part ≡ get_or read k part → slice_get parts k ≡ Some part
part_read parts read k part same h e = subst (λ (ps : List Part). slice_get ps k ≡ Some part) same
    (slice_get_read read (length read) k part refl h e)

-- the type of an id that is read
pub type_read : (types read : List CType) (id : ℕ) (other t : CType) → read ≡ types → type_of types
    (ref_of id) ≡ Some other → t ≡ get_or read (id - 1) t → type_of types (ref_of id) ≡ Some t
type_read types read zero other t same found e = absurd (none-some other found)
type_read types read (suc x) other t same found e =
    let less : suc x - 1 ≡ x = omega arith in
    slice_get_read types (length types) x t refl (slice_get_within types x other found)
    (e ∙ ap (λ i. get_or read i t) less ∙ ap (λ (ts : List CType). get_or ts x t) same)

-- the bits of a bit field
pub bits_field : (types : List CType) (pointer : ℕ) (flag : Bool) (value : ℕ) (r : Ref) (w b : ℕ)
    → w ≡ width_of flag value → 0 < w → b ≡ w → bits_of types pointer flag value r ≡ Some b
bits_field types pointer flag value r w b e h is = cond-true _ _ _
    (lt-ltb 0 (width_of flag value) (omega arith)) ∙ ap (λ (x : ℕ). Some x) (sym (is ∙ e))

-- the bits of another member
pub bits_sized : (types : List CType) (pointer : ℕ) (flag : Bool) (value : ℕ) (r : Ref) (w b s : ℕ)
    → w ≡ width_of flag value → w ≤ 0 → Some s ≡ size_of types pointer r → b ≡ 8 * s
    → bits_of types pointer flag value r ≡ Some b
bits_sized types pointer flag value r w b s e h size is =
    cond-false _ _ _ (le-ltb 0 (width_of flag value) (omega arith))
    ∙ ap (option_map (λ (n : ℕ). 8 * n)) (sym size) ∙ ap (λ (x : ℕ). Some x) (sym is)
