-- Reading a BTF file: the first fault in the order of the checks, or the types that the words show
-- (the Linux kernel's BTF documentation, "BTF Header", "String Encoding" and "Type Encoding"; the
-- order of the checks is this project's own).
use Rattle.std.specs.Prelude.{ℕ, zero, suc, ◌+◌, ◌*◌, ◌-◌, ◌/◌, ◌%◌, ◌^◌, ◌==◌, ◌&&◌, ◌||◌, nat_lt}
use Rattle.std.specs.Prelude.{nat_le, not, Bool, true, false, List, [], ◌∷◌, ◌++◌, length, take}
use Rattle.std.specs.Prelude.{drop, map, find, is_some, slice_index, unwrap_or, Option, None, Some}
use Rattle.std.specs.Prelude.{Result, Ok, Err, if◌then◌else◌}
use Rattle.std.specs.Option.{option_map, option_or}
use Rattle.std.specs.Int.{from_le_bytes, from_be_bytes, w32}
use Rattle.dw_base.specs.Texts.{text_of}
use Rattle.dw_base.specs.declared.numbers.Order.{Order}
use Rattle.dw_base.specs.declared.numbers.Order.TheVariants.{Little, Big}
use Rattle.c_model.specs.declared.kinds.TheConstants.{BTF_KIND_STRUCT, BTF_KIND_UNION}
use Rattle.c_model.specs.declared.kinds.TheConstants.{BTF_KIND_ENUM, BTF_KIND_FWD, BTF_KIND_FUNC}
use Rattle.c_model.specs.declared.kinds.TheConstants.{BTF_KIND_DECL_TAG, BTF_KIND_TYPE_TAG}
use Rattle.c_model.specs.declared.kinds.TheConstants.{BTF_KIND_ENUM64}
use Rattle.c_model.specs.declared.label.Part.{Part}
use Rattle.c_model.specs.declared.graph.CType.{CType}
use Rattle.c_model.specs.declared.graph.Ref.{Ref}
use Rattle.c_model.specs.declared.graph.Ref.TheVariants.{Void, Node}
use Rattle.btf_codec.specs.Fields.{bit_of, has_size, layout_of, own_targets, part_layout}
use Rattle.btf_codec.specs.declared.format.TheConstants.{BTF_VERSION, HEADER_LEN, VERSION, FLAGS}
use Rattle.btf_codec.specs.declared.format.TheConstants.{MAGIC_LOW, MAGIC_HIGH}
use Rattle.btf_codec.specs.declared.format.TheConstants.{HDR_LEN, TYPE_OFF, TYPE_LEN, STR_OFF}
use Rattle.btf_codec.specs.declared.format.TheConstants.{STR_LEN, NAME_OFF, INFO, SIZE, TYPE}
use Rattle.btf_codec.specs.declared.format.TheConstants.{TAIL, TYPE_HEAD, ARRAY_TYPE}
use Rattle.btf_codec.specs.declared.format.TheConstants.{ARRAY_INDEX_TYPE, ARRAY_NELEMS}
use Rattle.btf_codec.specs.declared.format.TheConstants.{BTF_MAX_VLEN, KIND_SHIFT, KINDS}
use Rattle.btf_codec.specs.declared.format.TheConstants.{KIND_FLAG_BIT}
use Rattle.btf_codec.specs.declared.layout.OwnTargets.{OwnTargets}
use Rattle.btf_codec.specs.declared.layout.OwnTargets.TheVariants.{NoTarget, OneTarget}
use Rattle.btf_codec.specs.declared.layout.OwnTargets.TheVariants.{ArrayTargets}
use Rattle.btf_codec.specs.declared.fault.BtfFault.{BtfFault}
use Rattle.btf_codec.specs.declared.fault.BtfFault.TheVariants.{BtfMagic, BtfHeader, BtfTruncated}
use Rattle.btf_codec.specs.declared.fault.BtfFault.TheVariants.{BtfKind, BtfInfo, BtfName, BtfRef}
use Rattle.btf_codec.specs.declared.fault.BtfFault.TheVariants.{BtfStrings}
use Rattle.btf_codec.specs.declared.layout.KindLayout.{KindLayout}
use Rattle.btf_codec.specs.declared.layout.KindLayout.TheVariants.{Int, Link, Array, Forward}
use Rattle.btf_codec.specs.declared.layout.KindLayout.TheVariants.{TaggedLink, Float, Sized}
use Rattle.btf_codec.specs.declared.layout.KindLayout.TheVariants.{Prototype}
use Rattle.btf_codec.specs.declared.layout.PartLayout.{PartLayout}
use Rattle.btf_codec.specs.declared.layout.PartLayout.TheVariants.{Member, Enumerator}
use Rattle.btf_codec.specs.declared.layout.PartLayout.TheVariants.{WideEnumerator, Parameter}
use Rattle.btf_codec.specs.declared.layout.PartLayout.TheVariants.{Variable}

infixl 10 ◌>>=◌
abbrev pub ◌>>=◌ : {A B : Type 0} → Result A BtfFault → (A → Result B BtfFault) → Result B BtfFault
(Ok x) >>= f = f x
(Err e) >>= f = Err e

-- the number of the 4 bytes at a word's place
abbrev pub four : List ℕ → ℕ → List ℕ
four bytes at = slice_index bytes at ∷ slice_index bytes (at + 1) ∷ slice_index bytes (at + 2)
    ∷ slice_index bytes (at + 3) ∷ []

abbrev pub word_in : Order → List ℕ → ℕ → ℕ
word_in Little bytes i = from_le_bytes w32 (four bytes (4 * i))
word_in Big bytes i = from_be_bytes w32 (four bytes (4 * i))

-- the parts of an info word
abbrev pub kind_in : ℕ → ℕ
kind_in y = y / 2 ^ KIND_SHIFT % KINDS

abbrev pub flag_in : ℕ → Bool
flag_in y = nat_le (2 ^ KIND_FLAG_BIT) y

abbrev pub vlen_in : ℕ → ℕ
vlen_in y = y % (BTF_MAX_VLEN + 1)

-- bits 16 to 23, 29 and 30 are clear
abbrev pub is_clean : ℕ → Bool
is_clean y =
    y == vlen_in y + 2 ^ KIND_SHIFT * kind_in y + 2 ^ KIND_FLAG_BIT * bit_of (flag_in y)

-- kind_flag may be set on this kind
abbrev pub may_flag : ℕ → Bool
may_flag k =
    k == BTF_KIND_STRUCT || k == BTF_KIND_UNION || k == BTF_KIND_ENUM || k == BTF_KIND_FWD
    || k == BTF_KIND_DECL_TAG || k == BTF_KIND_TYPE_TAG || k == BTF_KIND_ENUM64

-- vlen is a FUNC's linkage, the number of parts, or 0
abbrev pub is_vlen : KindLayout → ℕ → ℕ → Bool
is_vlen (Sized parts) k v = true
is_vlen Prototype k v = true
is_vlen Link k v = if k == BTF_KIND_FUNC then nat_lt v 3 else v == 0
is_vlen layout k v = v == 0

-- the third word of an ARRAY and of a FWD is 0
abbrev pub is_third : KindLayout → ℕ → Bool
is_third Array third = third == 0
is_third Forward third = third == 0
is_third layout third = true

abbrev pub is_info : KindLayout → ℕ → ℕ → Bool
is_info layout y third =
    is_clean y && (not (flag_in y) || may_flag (kind_in y))
    && is_vlen layout (kind_in y) (vlen_in y) && is_third layout third

-- how many words a part and a type have
abbrev pub part_width : PartLayout → ℕ
part_width Member = 3
part_width Enumerator = 2
part_width WideEnumerator = 3
part_width Parameter = 2
part_width Variable = 3

abbrev pub type_width : KindLayout → ℕ → ℕ
type_width Int v = 4
type_width Link v = 3
type_width Array v = 6
type_width Forward v = 3
type_width TaggedLink v = 4
type_width Float v = 3
type_width (Sized parts) v = TYPE_HEAD + part_width parts * v
type_width Prototype v = TYPE_HEAD + 2 * v

-- the checks of a type at a place, of whose words so many are left: how many of them it has
abbrev pub checked_width : ℕ → ℕ → ℕ → ℕ → ℕ → Option KindLayout → Result ℕ BtfFault
checked_width place id y third left None = Err (BtfKind place id (kind_in y))
checked_width place id y third left (Some layout) =
    if is_info layout y third
    then (if nat_lt left (type_width layout (vlen_in y)) then Err (BtfTruncated place)
    else Ok (type_width layout (vlen_in y)))
    else Err (BtfInfo place id)

abbrev pub head_of : ℕ → ℕ → (ℕ → ℕ) → ℕ → Result ℕ BtfFault
head_of place id w left = if nat_lt left TYPE_HEAD then Err (BtfTruncated place)
    else checked_width place id (w INFO) (w SIZE) left (layout_of (kind_in (w INFO)))

-- the bytes of each type, from a place on
unfoldable pub pieces_of : Order → ℕ → ℕ → ℕ → List ℕ → Result (List (List ℕ)) BtfFault
pieces_of order zero place id bytes = Ok []
pieces_of order (suc n) place id [] = Ok []
pieces_of order (suc n) place id (b ∷ bs) =
    head_of place id (word_in order (b ∷ bs)) (length (b ∷ bs) / 4) >>= λ (size : ℕ).
    pieces_of order n (place + 4 * size) (id + 1) (drop (4 * size) (b ∷ bs))
    >>= λ (rest : List (List ℕ)).
    Ok (take (4 * size) (b ∷ bs) ∷ rest)

-- so many places, each so many words behind the one before
unfoldable pub places : ℕ → ℕ → ℕ → List ℕ
places at width zero = []
places at width (suc n) = at ∷ places (at + width) width n

-- the words at such places
abbrev pub words_at : (ℕ → ℕ) → ℕ → ℕ → ℕ → List ℕ
words_at w at width n = map w (places at width n)

-- the first number that is not below a limit
abbrev pub first_past : ℕ → List ℕ → Option ℕ
first_past limit ws = find (λ (x : ℕ). nat_le limit x) ws

-- the words of parts from a word on that are offsets of names, and those that are ids
abbrev pub part_names : PartLayout → (ℕ → ℕ) → ℕ → ℕ → List ℕ
part_names Variable w at n = []
part_names parts w at n = words_at w at (part_width parts) n

abbrev pub part_ids : PartLayout → (ℕ → ℕ) → ℕ → ℕ → List ℕ
part_ids Member w at n = words_at w (at + 1) 3 n
part_ids Parameter w at n = words_at w (at + 1) 2 n
part_ids Variable w at n = words_at w at 3 n
part_ids parts w at n = []

abbrev pub names_over : Option PartLayout → (ℕ → ℕ) → ℕ → List ℕ
names_over None w v = []
names_over (Some parts) w v = part_names parts w TYPE_HEAD v

abbrev pub ids_over : Option PartLayout → (ℕ → ℕ) → ℕ → List ℕ
ids_over None w v = []
ids_over (Some parts) w v = part_ids parts w TYPE_HEAD v

-- the words outside of parts that are ids
abbrev pub own_ids : OwnTargets → (ℕ → ℕ) → List ℕ
own_ids NoTarget w = []
own_ids OneTarget w = w TYPE ∷ []
own_ids ArrayTargets w = w ARRAY_TYPE ∷ w ARRAY_INDEX_TYPE ∷ []

-- the words of a type that are offsets of names
abbrev pub names_by : Option KindLayout → (ℕ → ℕ) → ℕ → List ℕ
names_by None w v = w NAME_OFF ∷ []
names_by (Some layout) w v = w NAME_OFF ∷ names_over (part_layout layout) w v

-- the words of a type that are ids
abbrev pub ids_by : Option KindLayout → (ℕ → ℕ) → ℕ → List ℕ
ids_by None w v = []
ids_by (Some layout) w v = own_ids (own_targets layout) w ++ ids_over (part_layout layout) w v

abbrev pub layout_in : (ℕ → ℕ) → Option KindLayout
layout_in w = layout_of (kind_in (w INFO))

abbrev pub names_in : (ℕ → ℕ) → List ℕ
names_in w = names_by (layout_in w) w (vlen_in (w INFO))

abbrev pub ids_in : (ℕ → ℕ) → List ℕ
ids_in w = ids_by (layout_in w) w (vlen_in (w INFO))

-- the first word of a type that is no offset in the strings, and after it the first that is no id
-- of the table
abbrev pub words_fault : ℕ → ℕ → ℕ → ℕ → (ℕ → ℕ) → Option BtfFault
words_fault place id limit count w =
    option_or (option_map (λ (x : ℕ). BtfName place id x) (first_past limit (names_in w)))
    (option_map (λ (x : ℕ). BtfRef place id x) (first_past (count + 1) (ids_in w)))

unfoldable pub pieces_fault : Order → ℕ → ℕ → ℕ → ℕ → List (List ℕ) → Option BtfFault
pieces_fault order place id limit count [] = None
pieces_fault order place id limit count (p ∷ ps) =
    option_or (words_fault place id limit count (word_in order p))
    (pieces_fault order (place + length p) (id + 1) limit count ps)

-- the type that the words show, over the base's strings and the own ones
abbrev pub name_at : List ℕ → ℕ → List ℕ
name_at strings x = unwrap_or (text_of strings x) []

abbrev pub ref_of : ℕ → Ref
ref_of zero = Void
ref_of (suc x) = Node x

abbrev pub whole_value : (ℕ → ℕ) → ℕ → ℕ
whole_value w at = w (at + 1) + 2 ^ 32 * w (at + 2)

abbrev pub decoded_part : PartLayout → List ℕ → (ℕ → ℕ) → ℕ → Part
decoded_part Member strings w at = record { name = name_at strings (w at); value = w (at + 2) }
decoded_part Enumerator strings w at = record { name = name_at strings (w at); value = w (at + 1) }
decoded_part WideEnumerator strings w at =
    record { name = name_at strings (w at); value = whole_value w at }
decoded_part Parameter strings w at = record { name = name_at strings (w at); value = 0 }
decoded_part Variable strings w at = record { name = []; value = whole_value w at }

abbrev pub decoded_parts : PartLayout → List ℕ → (ℕ → ℕ) → ℕ → List Part
decoded_parts layout strings w n = map (decoded_part layout strings w)
    (places TYPE_HEAD (part_width layout) n)

abbrev pub parts_over : Option PartLayout → List ℕ → (ℕ → ℕ) → ℕ → List Part
parts_over None strings w v = []
parts_over (Some layout) strings w v = decoded_parts layout strings w v

abbrev pub parts_by : Option KindLayout → List ℕ → (ℕ → ℕ) → ℕ → List Part
parts_by None strings w v = []
parts_by (Some layout) strings w v = parts_over (part_layout layout) strings w v

abbrev pub size_by : Option KindLayout → (ℕ → ℕ) → ℕ
size_by None w = 0
size_by (Some layout) w = if has_size layout then w SIZE else 0

abbrev pub extra_by : Option KindLayout → (ℕ → ℕ) → ℕ
extra_by (Some Int) w = w TAIL
extra_by (Some Link) w = if kind_in (w INFO) == BTF_KIND_FUNC then vlen_in (w INFO) else 0
extra_by (Some Array) w = w ARRAY_NELEMS
extra_by (Some TaggedLink) w = w TAIL
extra_by layout w = 0

abbrev pub type_by : Option KindLayout → List ℕ → (ℕ → ℕ) → CType
type_by layout strings w =
    record {
      label = record {
        kind = kind_in (w INFO);
        name = name_at strings (w NAME_OFF);
        flag = flag_in (w INFO);
        size = size_by layout w;
        extra = extra_by layout w;
        parts = parts_by layout strings w (vlen_in (w INFO));
      };
      targets = map ref_of (ids_by layout w (vlen_in (w INFO)));
    }

unfoldable pub decoded_type : List ℕ → (ℕ → ℕ) → CType
decoded_type strings w = type_by (layout_in w) strings w

-- the byte order that the magic number shows
abbrev pub magic_order : ℕ → ℕ → Option Order
magic_order a b = if a == MAGIC_LOW && b == MAGIC_HIGH then Some Little
    else if a == MAGIC_HIGH && b == MAGIC_LOW then Some Big
    else None

abbrev pub is_same_order : Order → Order → Bool
is_same_order Little Little = true
is_same_order Little Big = false
is_same_order Big Little = false
is_same_order Big Big = true

abbrev pub is_wanted : Option Order → Order → Bool
is_wanted None order = true
is_wanted (Some want) order = is_same_order want order

abbrev pub wanted_order : Option Order → Option Order → Result Order BtfFault
wanted_order want None = Err BtfMagic
wanted_order want (Some order) = if is_wanted want order then Ok order else Err BtfMagic

abbrev pub order_in : Option Order → List ℕ → Result Order BtfFault
order_in want bytes = wanted_order want (magic_order (slice_index bytes 0) (slice_index bytes 1))

-- the known version, no flags, the header's length, types first and in whole words, then the
-- strings and nothing more
abbrev pub is_header : Order → List ℕ → Bool
is_header order bytes =
    slice_index bytes VERSION == BTF_VERSION && slice_index bytes FLAGS == 0
    && word_in order bytes HDR_LEN == HEADER_LEN && word_in order bytes TYPE_OFF == 0
    && word_in order bytes TYPE_LEN % 4 == 0
    && word_in order bytes STR_OFF == word_in order bytes TYPE_LEN
    && length bytes == HEADER_LEN + word_in order bytes TYPE_LEN + word_in order bytes STR_LEN

-- the bytes of the types and those of the strings
abbrev pub sections_of : Order → List ℕ → Result (List ℕ × List ℕ) BtfFault
sections_of order bytes =
    if nat_lt (length bytes) HEADER_LEN
    then Err BtfHeader
    else if is_header order bytes then Ok (
      take (word_in order bytes TYPE_LEN) (drop HEADER_LEN bytes),
      drop (HEADER_LEN + word_in order bytes TYPE_LEN) bytes,
    ) else Err BtfHeader

-- the own strings end with NUL, and without a base they begin with one
abbrev pub is_begun : Bool → List ℕ → Bool
is_begun based [] = based
is_begun based (b ∷ bs) = based || b == 0

abbrev pub is_ended : List ℕ → Bool
is_ended names = length names == 0 || slice_index names (length names - 1) == 0

-- the parts of a file: its byte order, the bytes of each type, and the strings
pub record File : Type 0 where
  pub order : Order
  pub pieces : List (List ℕ)
  pub names : List ℕ

abbrev pub file_unless : Order → List (List ℕ) → List ℕ → Option BtfFault → Result File BtfFault
file_unless order pieces names None = Ok (record { order = order; pieces = pieces; names = names })
file_unless order pieces names (Some fault) = Err fault

unfoldable pub file_of : Bool → ℕ → ℕ → Option Order → List ℕ → Result File BtfFault
file_of based types limit want bytes =
    order_in want bytes >>= λ (order : Order).
    sections_of order bytes >>= λ (s : List ℕ × List ℕ).
    (if is_begun based s.1 && is_ended s.1 then Ok s
    else Err (BtfStrings (HEADER_LEN + length s.0)))
    >>= λ (t : List ℕ × List ℕ).
    pieces_of order (length t.0) HEADER_LEN (types + 1) t.0 >>= λ (pieces : List (List ℕ)).
    file_unless order pieces t.1
    (pieces_fault order HEADER_LEN (types + 1) (limit + length t.1) (types + length pieces) pieces)

-- the table that comes before the own types: its types and its strings
pub record Before : Type 0 where
  pub types : List CType
  pub names : List ℕ

abbrev pub types_before : Option Before → List CType
types_before None = []
types_before (Some b) = b.types

abbrev pub names_before : Option Before → List ℕ
names_before None = []
names_before (Some b) = b.names

-- the table of a file: its byte order, how many types come before the own ones, all types, and the
-- own strings
pub record Decoded : Type 0 where
  pub order : Order
  pub base : ℕ
  pub types : List CType
  pub names : List ℕ

abbrev pub types_of : List ℕ → Order → List (List ℕ) → List CType
types_of strings order pieces = map (λ (p : List ℕ). decoded_type strings (word_in order p)) pieces

unfoldable pub table_of : Option Before → Option Order → List ℕ → Result Decoded BtfFault
table_of before want bytes =
    file_of (is_some before) (length (types_before before))
    (length (names_before before)) want bytes >>= λ (f : File).
    Ok (record {
      order = f.order;
      base = length (types_before before);
      types = types_before before ++ types_of (names_before before ++ f.names) f.order f.pieces;
      names = f.names;
    })
