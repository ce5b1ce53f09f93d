-- Where the members of a structure or union lie, by sets of bits. Bits are numbered from 0, the
-- first of the structure.
use Rattle.std.specs.Prelude.{◌≡◌, ℕ, ◌+◌, ◌*◌, ◌/◌, ◌%◌, ◌^◌, ◌<◌, ◌≤◌, ◌⊎◌, nat_le, nat_lt, List}
use Rattle.std.specs.Prelude.{Bool, Option, Some, None, take, length, slice_get, sum_by, count_by}
use Rattle.std.specs.Prelude.{if◌then◌else◌}
use Rattle.std.specs.Option.{option_map}
use Rattle.std.specs.List.{list_all, range_with_len}
use Rattle.c_model.specs.declared.kinds.TheConstants.{BTF_KIND_STRUCT, BTF_KIND_UNION}
use Rattle.c_model.specs.declared.label.Part.{Part}
use Rattle.c_model.specs.declared.graph.CType.{CType}
use Rattle.c_model.specs.declared.graph.Ref.{Ref}
use Rattle.btf_codec.specs.Fields.{id_of, target_at}
use Rattle.layout_printer.specs.Sizes.{ref_of, type_of, size_of}
use Rattle.layout_printer.specs.declared.slots.Slot.{Slot}
use Rattle.layout_printer.specs.declared.slots.TypeLayout.{TypeLayout}

-- the offset word of a member: where its structure has the flag, the low 24 bits are its first bit,
-- and the high 8 its width if it is a bit field, else 0
abbrev pub start_of : Bool → ℕ → ℕ
start_of flag value = if flag then value % 2 ^ 24 else value

abbrev pub width_of : Bool → ℕ → ℕ
width_of flag value = if flag then value / 2 ^ 24 else 0

-- whether a member is a bit field
abbrev pub is_field : Bool → ℕ → Bool
is_field flag value = nat_lt 0 (width_of flag value)

-- how many bits a member has: the width of a bit field, else those of its type
abbrev pub bits_of : List CType → ℕ → Bool → ℕ → Ref → Option ℕ
bits_of types pointer flag value r =
    if is_field flag value then Some (width_of flag value)
    else option_map (λ s. 8 * s) (size_of types pointer r)

-- the bit behind a member's last one
abbrev pub end_of : Slot → ℕ
end_of s = s.start + s.bits

-- whether a bit lies at or past the end of each of these members
abbrev pub is_past : List Slot → ℕ → Bool
is_past slots bit = list_all (λ (s : Slot). nat_le (end_of s) bit) slots

-- how many bits below a bit lie at or past the end of each of these members
unfoldable pub free_bits : List Slot → ℕ → ℕ
free_bits slots below = count_by (is_past slots) (range_with_len 0 below)

-- a slot is that of a member, given the slots of the earlier ones
pub record IsSlot (types : List CType) (pointer : ℕ) (flag : Bool) (earlier : List Slot) (value : ℕ)
    (r : Ref) (slot : Slot) : Type 0 where
  pub start : slot.start ≡ start_of flag value
  pub bits : bits_of types pointer flag value r ≡ Some slot.bits
  pub field : slot.field ≡ is_field flag value
  pub hole : slot.hole ≡ free_bits earlier slot.start

-- the slot in a place is that of the member there
pub record IsSlotAt (types : List CType) (pointer : ℕ) (t : CType) (slots : List Slot)
    (k : ℕ) : Type 0 where
  pub part : Part
  pub here : slice_get t.label.parts k ≡ Some part
  pub slot : Slot
  pub there : slice_get slots k ≡ Some slot
  pub is : IsSlot types pointer t.label.flag (take k slots) part.value (target_at t.targets k) slot

-- each member has its slot
pub record AreSlots (types : List CType) (pointer : ℕ) (t : CType)
    (slots : List Slot) : Type 0 where
  pub covers : length slots ≡ length t.label.parts
  pub each : (k : ℕ) → k < length t.label.parts → IsSlotAt types pointer t slots k

-- the layout of the structure or union of an id, where pointers have so many bytes
pub record IsLayout (types : List CType) (pointer id : ℕ) (shown : TypeLayout) : Type 0 where
  pub t : CType
  pub found : type_of types (ref_of id) ≡ Some t
  pub same : shown.id ≡ id
  pub size : shown.size ≡ t.label.size
  pub slots : AreSlots types pointer t shown.slots
  pub padding : shown.padding ≡ free_bits shown.slots (8 * shown.size)

-- whether the type of a member has no size; bit fields need none
pub record LacksSize (types : List CType) (pointer : ℕ) (t : CType) (k : ℕ) : Type 0 where
  pub part : Part
  pub here : slice_get t.label.parts k ≡ Some part
  pub none : bits_of types pointer t.label.flag part.value (target_at t.targets k) ≡ None

-- the first member without a size has the type of this id
pub record IsFirstLacking (types : List CType) (pointer : ℕ) (t : CType) (n : ℕ) : Type 0 where
  pub k : ℕ
  pub lacks : LacksSize types pointer t k
  pub first : (j : ℕ) → j < k → LacksSize types pointer t j → ⊥
  pub named : n ≡ id_of (target_at t.targets k)

-- an id is a structure's or a union's
pub record IsStructure (types : List CType) (id : ℕ) : Type 0 where
  pub t : CType
  pub found : type_of types (ref_of id) ≡ Some t
  pub kind : (t.label.kind ≡ BTF_KIND_STRUCT) ⊎ (t.label.kind ≡ BTF_KIND_UNION)

-- each member starts at or after the end of each earlier one, and ends within the size
pub record IsInOrder (shown : TypeLayout) : Type 0 where
  pub apart : (j k : ℕ) (a b : Slot) → j < k → slice_get shown.slots j ≡ Some a
      → slice_get shown.slots k ≡ Some b → end_of a ≤ b.start
  pub within : (k : ℕ) (a : Slot) → slice_get shown.slots k ≡ Some a → end_of a ≤ 8 * shown.size

-- then the bits of the members, of the holes and of the padding are those of the size
abbrev pub BitsAddUp : Type 0
BitsAddUp =
    (types : List CType) (pointer id : ℕ) (shown : TypeLayout) → IsLayout types pointer id shown
    → IsInOrder shown
    → sum_by (λ (s : Slot). s.bits) shown.slots + sum_by (λ (s : Slot). s.hole) shown.slots
    + shown.padding ≡ 8 * shown.size
