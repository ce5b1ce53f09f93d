-- The fields of each kind of type, in their order (the Linux kernel's BTF documentation, "Type
-- Encoding").
use Rattle.std.specs.Prelude.{ℕ, ◌+◌, ◌*◌, ◌/◌, ◌%◌, ◌^◌, ◌==◌, Bool, true, false, List, [], ◌∷◌}
use Rattle.std.specs.Prelude.{◌++◌, length, drop, slice_get, unwrap_or, Option, None, Some}
use Rattle.std.specs.Prelude.{if◌then◌else◌}
use Rattle.c_model.specs.declared.kinds.TheConstants.{BTF_KIND_INT, BTF_KIND_PTR, BTF_KIND_ARRAY}
use Rattle.c_model.specs.declared.kinds.TheConstants.{BTF_KIND_STRUCT, BTF_KIND_UNION}
use Rattle.c_model.specs.declared.kinds.TheConstants.{BTF_KIND_ENUM, BTF_KIND_FWD, BTF_KIND_TYPEDEF}
use Rattle.c_model.specs.declared.kinds.TheConstants.{BTF_KIND_VOLATILE, BTF_KIND_CONST}
use Rattle.c_model.specs.declared.kinds.TheConstants.{BTF_KIND_RESTRICT, BTF_KIND_FUNC}
use Rattle.c_model.specs.declared.kinds.TheConstants.{BTF_KIND_FUNC_PROTO, BTF_KIND_VAR}
use Rattle.c_model.specs.declared.kinds.TheConstants.{BTF_KIND_DATASEC, BTF_KIND_FLOAT}
use Rattle.c_model.specs.declared.kinds.TheConstants.{BTF_KIND_DECL_TAG, BTF_KIND_TYPE_TAG}
use Rattle.c_model.specs.declared.kinds.TheConstants.{BTF_KIND_ENUM64}
use Rattle.c_model.specs.declared.label.Label.{Label}
use Rattle.c_model.specs.declared.label.Part.{Part}
use Rattle.c_model.specs.declared.graph.CType.{CType}
use Rattle.c_model.specs.declared.graph.Ref.{Ref}
use Rattle.c_model.specs.declared.graph.Ref.TheVariants.{Void, Node}
use Rattle.btf_codec.specs.declared.format.TheConstants.{KIND_SHIFT, KIND_FLAG_BIT}
use Rattle.btf_codec.specs.declared.layout.KindLayout.{KindLayout}
use Rattle.btf_codec.specs.declared.layout.KindLayout.TheVariants.{Int, Link, Array, Forward}
use Rattle.btf_codec.specs.declared.layout.KindLayout.TheVariants.{TaggedLink, Float, Sized}
use Rattle.btf_codec.specs.declared.layout.KindLayout.TheVariants.{Prototype}
use Rattle.btf_codec.specs.declared.layout.OwnTargets.{OwnTargets}
use Rattle.btf_codec.specs.declared.layout.OwnTargets.TheVariants.{NoTarget, OneTarget}
use Rattle.btf_codec.specs.declared.layout.OwnTargets.TheVariants.{ArrayTargets}
use Rattle.btf_codec.specs.declared.layout.PartLayout.{PartLayout}
use Rattle.btf_codec.specs.declared.layout.PartLayout.TheVariants.{Member, Enumerator}
use Rattle.btf_codec.specs.declared.layout.PartLayout.TheVariants.{WideEnumerator, Parameter}
use Rattle.btf_codec.specs.declared.layout.PartLayout.TheVariants.{Variable}

-- a field is one 4-byte word: the offset of a name, the id of a type, or a number
pub data Field : Type 0 where
  Named : List ℕ → Field
  Refers : Ref → Field
  Number : ℕ → Field

-- void is 0, and the types are numbered from 1
abbrev pub id_of : Ref → ℕ
id_of Void = 0
id_of (Node x) = x + 1

-- the layout of a kind; None where no kind has that number
abbrev pub layout_of : ℕ → Option KindLayout
layout_of k =
    if k == BTF_KIND_INT then Some Int
    else if k == BTF_KIND_PTR then Some Link
    else if k == BTF_KIND_ARRAY then Some Array
    else if k == BTF_KIND_STRUCT then Some (Sized Member)
    else if k == BTF_KIND_UNION then Some (Sized Member)
    else if k == BTF_KIND_ENUM then Some (Sized Enumerator)
    else if k == BTF_KIND_FWD then Some Forward
    else if k == BTF_KIND_TYPEDEF then Some Link
    else if k == BTF_KIND_VOLATILE then Some Link
    else if k == BTF_KIND_CONST then Some Link
    else if k == BTF_KIND_RESTRICT then Some Link
    else if k == BTF_KIND_FUNC then Some Link
    else if k == BTF_KIND_FUNC_PROTO then Some Prototype
    else if k == BTF_KIND_VAR then Some TaggedLink
    else if k == BTF_KIND_DATASEC then Some (Sized Variable)
    else if k == BTF_KIND_FLOAT then Some Float
    else if k == BTF_KIND_DECL_TAG then Some TaggedLink
    else if k == BTF_KIND_TYPE_TAG then Some Link
    else if k == BTF_KIND_ENUM64 then Some (Sized WideEnumerator)
    else None

-- the third word is the size
abbrev pub has_size : KindLayout → Bool
has_size Int = true
has_size Float = true
has_size (Sized parts) = true
has_size layout = false

-- which words outside of parts are ids
abbrev pub own_targets : KindLayout → OwnTargets
own_targets Link = OneTarget
own_targets TaggedLink = OneTarget
own_targets Prototype = OneTarget
own_targets Array = ArrayTargets
own_targets layout = NoTarget

-- the layout of the parts of a kind that has parts
abbrev pub part_layout : KindLayout → Option PartLayout
part_layout (Sized parts) = Some parts
part_layout Prototype = Some Parameter
part_layout layout = None

-- bits 0 to 15: the number of parts, but of a FUNC its linkage
abbrev pub vlen_of : Label → ℕ
vlen_of l = if l.kind == BTF_KIND_FUNC then l.extra else length l.parts

abbrev pub bit_of : Bool → ℕ
bit_of true = 1
bit_of false = 0

-- the info word: vlen in bits 0 to 15, the kind in 24 to 28, kind_flag in 31
abbrev pub info_of : Label → ℕ
info_of l = vlen_of l + 2 ^ KIND_SHIFT * l.kind + 2 ^ KIND_FLAG_BIT * bit_of l.flag

-- the low and the high 32 bits
abbrev pub low_of : ℕ → ℕ
low_of v = v % 2 ^ 32

abbrev pub high_of : ℕ → ℕ
high_of v = v / 2 ^ 32

-- the reference at a place; void past the last
abbrev pub target_at : List Ref → ℕ → Ref
target_at targets i = unwrap_or (slice_get targets i) Void

-- the fields of a part and of the type that it refers to
abbrev pub part_fields : PartLayout → Part → Ref → List Field
part_fields Member p r = Named p.name ∷ Refers r ∷ Number (low_of p.value) ∷ []
part_fields Enumerator p r = Named p.name ∷ Number (low_of p.value) ∷ []
part_fields WideEnumerator p r =
    Named p.name ∷ Number (low_of p.value) ∷ Number (high_of p.value) ∷ []
part_fields Parameter p r = Named p.name ∷ Refers r ∷ []
part_fields Variable p r = Refers r ∷ Number (low_of p.value) ∷ Number (high_of p.value) ∷ []

-- parts with their references, in order
unfoldable pub parts_fields : PartLayout → List Part → List Ref → List Field
parts_fields l [] rs = []
parts_fields l (p ∷ ps) rs = part_fields l p (target_at rs 0) ++ parts_fields l ps (drop 1 rs)

-- what follows the name and the info word
abbrev pub rest_fields : KindLayout → Label → List Ref → List Field
rest_fields Int l rs = Number l.size ∷ Number l.extra ∷ []
rest_fields Link l rs = Refers (target_at rs 0) ∷ []
rest_fields Array l rs =
    Number 0 ∷ Refers (target_at rs 0) ∷ Refers (target_at rs 1) ∷ Number l.extra ∷ []
rest_fields Forward l rs = Number 0 ∷ []
rest_fields TaggedLink l rs = Refers (target_at rs 0) ∷ Number l.extra ∷ []
rest_fields Float l rs = Number l.size ∷ []
rest_fields (Sized parts) l rs = Number l.size ∷ parts_fields parts l.parts rs
rest_fields Prototype l rs = Refers (target_at rs 0) ∷ parts_fields Parameter l.parts (drop 1 rs)

abbrev pub rest_by : Option KindLayout → Label → List Ref → List Field
rest_by None l rs = []
rest_by (Some layout) l rs = rest_fields layout l rs

-- the fields of a type
unfoldable pub fields_of : CType → List Field
fields_of t = Named t.label.name ∷ Number (info_of t.label) ∷ rest_by
    (layout_of t.label.kind) t.label t.targets
