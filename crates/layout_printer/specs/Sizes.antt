-- Sizes of types, in bytes.
use Rattle.std.specs.Prelude.{◌≡◌, ℕ, zero, suc, ◌*◌, ◌^◌, ◌<◌, ◌==◌, ◌&&◌, ◌||◌, nat_le, List, []}
use Rattle.std.specs.Prelude.{◌∷◌, Bool, Option, Some, None, codes, find, length, slice_get}
use Rattle.std.specs.Prelude.{if◌then◌else◌}
use Rattle.std.specs.Option.{option_and_then, option_map, option_map_or}
use Rattle.std.specs.List.{list_any}
use Rattle.std.specs.Str.{bytes_eq}
use Rattle.c_model.specs.declared.kinds.TheConstants.{BTF_KIND_INT, BTF_KIND_PTR, BTF_KIND_ARRAY}
use Rattle.c_model.specs.declared.kinds.TheConstants.{BTF_KIND_STRUCT, BTF_KIND_UNION}
use Rattle.c_model.specs.declared.kinds.TheConstants.{BTF_KIND_ENUM, BTF_KIND_TYPEDEF}
use Rattle.c_model.specs.declared.kinds.TheConstants.{BTF_KIND_VOLATILE, BTF_KIND_CONST}
use Rattle.c_model.specs.declared.kinds.TheConstants.{BTF_KIND_RESTRICT, BTF_KIND_VAR}
use Rattle.c_model.specs.declared.kinds.TheConstants.{BTF_KIND_DATASEC, BTF_KIND_FLOAT}
use Rattle.c_model.specs.declared.kinds.TheConstants.{BTF_KIND_TYPE_TAG, BTF_KIND_ENUM64}
use Rattle.c_model.specs.declared.graph.CType.{CType}
use Rattle.c_model.specs.declared.graph.Ref.{Ref}
use Rattle.c_model.specs.declared.graph.Ref.TheVariants.{Void, Node}
use Rattle.btf_codec.specs.Fields.{target_at}
use Rattle.layout_printer.specs.declared.sizes.SizeRule.{SizeRule}
use Rattle.layout_printer.specs.declared.sizes.Sizes.{Sizes}
use Rattle.layout_printer.specs.declared.sizes.SizeRule.TheVariants.{Stated, Pointer, Elements}
use Rattle.layout_printer.specs.declared.sizes.SizeRule.TheVariants.{Target, Unsized}

-- the reference of an id: 0 is void
abbrev pub ref_of : ℕ → Ref
ref_of zero = Void
ref_of (suc x) = Node x

-- the type that a reference is to; None for void
abbrev pub type_of : List CType → Ref → Option CType
type_of types Void = None
type_of types (Node x) = slice_get types x

-- what gives a type of a kind its size
abbrev pub size_rule : ℕ → SizeRule
size_rule k =
    if k == BTF_KIND_INT then Stated
    else if k == BTF_KIND_PTR then Pointer
    else if k == BTF_KIND_ARRAY then Elements
    else if k == BTF_KIND_STRUCT then Stated
    else if k == BTF_KIND_UNION then Stated
    else if k == BTF_KIND_ENUM then Stated
    else if k == BTF_KIND_TYPEDEF then Target
    else if k == BTF_KIND_VOLATILE then Target
    else if k == BTF_KIND_CONST then Target
    else if k == BTF_KIND_RESTRICT then Target
    else if k == BTF_KIND_VAR then Target
    else if k == BTF_KIND_DATASEC then Stated
    else if k == BTF_KIND_FLOAT then Stated
    else if k == BTF_KIND_TYPE_TAG then Target
    else if k == BTF_KIND_ENUM64 then Stated
    else Unsized

-- the size of a type by its rule, given the sizes of the types that it refers to
abbrev pub size_by : (Ref → Option ℕ) → ℕ → SizeRule → CType → Option ℕ
size_by rest pointer Stated t = Some t.label.size
size_by rest pointer Pointer t = Some pointer
size_by rest pointer Elements t = option_map (λ s. t.label.extra * s) (rest (target_at t.targets 0))
size_by rest pointer Target t = rest (target_at t.targets 0)
size_by rest pointer Unsized t = None

-- a size past 2^60 is none
abbrev pub checked_size : ℕ → Option ℕ
checked_size s = if nat_le s (2 ^ 60) then Some s else None

-- the size of what a reference is to, given those of the types behind it; void has none
abbrev pub size_from : (Ref → Option ℕ) → List CType → ℕ → Ref → Option ℕ
size_from rest types pointer r =
    option_and_then (λ (t : CType).
    option_and_then checked_size (size_by rest pointer (size_rule t.label.kind) t))
    (type_of types r)

-- the size that at most n types give, one behind the other
abbrev pub size_in : ℕ → List CType → ℕ → Ref → Option ℕ
size_in zero types pointer r = None
size_in (suc n) types pointer r = size_from (size_in n types pointer) types pointer r

-- the size of what a reference is to, where pointers have so many bytes. A chain of types that
-- gives no size within as many types as there are is a cycle, and has none
abbrev pub size_of : List CType → ℕ → Ref → Option ℕ
size_of types pointer r = size_in (length types) types pointer r

-- the sizes of a table are those of its types, in their order
pub record AreSizes (types : List CType) (sizes : Sizes) : Type 0 where
  pub covers : length sizes.items.items ≡ length types
  pub each : (x : ℕ) → x < length types
      → slice_get sizes.items.items x ≡ Some (size_of types sizes.pointer (Node x))

-- an INT of 4 or 8 bytes by one of C's names for `long`
abbrev pub is_long : CType → Bool
is_long t =
    (t.label.kind == BTF_KIND_INT)
    && ((t.label.size == 4) || (t.label.size == 8))
    && list_any (bytes_eq t.label.name)
    (codes "long" ∷ codes "long int" ∷ codes "unsigned long" ∷ codes "long unsigned int" ∷ [])

-- how many bytes the pointers of a table have: the size of its first `long`, and 8 where it has
-- none
abbrev pub pointer_of : List CType → ℕ
pointer_of types = option_map_or (λ (t : CType). t.label.size) (find is_long types) 8
