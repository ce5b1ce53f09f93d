-- What the bytes of a BTF file spell (the Linux kernel's BTF documentation, "BTF Header", "String
-- Encoding" and "Type Encoding").
use Rattle.std.specs.Prelude.{◌≡◌, ℕ, ◌+◌, ◌*◌, ◌-◌, ◌<◌, ◌^◌, List, [], ◌∷◌, ◌++◌, length, All}
use Rattle.std.specs.Prelude.{slice_get, Option, None, Some, ⊤}
use Rattle.std.specs.List.{AllZip, flat_map}
use Rattle.std.specs.Int.{to_le_bytes, to_be_bytes, w16, w32}
use Rattle.dw_base.specs.Texts.{text_of}
use Rattle.dw_base.specs.declared.numbers.Order.{Order}
use Rattle.dw_base.specs.declared.numbers.Order.TheVariants.{Little, Big}
use Rattle.c_model.specs.Graph.{RefersWithin}
use Rattle.c_model.specs.Kinds.{IsWellFormed}
use Rattle.c_model.specs.declared.graph.CType.{CType}
use Rattle.btf_codec.specs.declared.format.TheConstants.{BTF_MAGIC, BTF_VERSION, HEADER_LEN}
use Rattle.btf_codec.specs.Fields.{Field, Named, Refers, Number, fields_of, id_of}

-- the table that another one goes on from: how many types it has, and its string section
pub record Base : Type 0 where
  pub types : ℕ
  pub names : List ℕ

-- ids and string offsets count on from the base
abbrev pub base_types : Option Base → ℕ
base_types None = 0
base_types (Some b) = b.types

abbrev pub base_names : Option Base → List ℕ
base_names None = []
base_names (Some b) = b.names

-- the bytes of a number of 2 and of 4 bytes
abbrev pub half_bytes : Order → ℕ → List ℕ
half_bytes Little n = to_le_bytes w16 n
half_bytes Big n = to_be_bytes w16 n

abbrev pub word_bytes : Order → ℕ → List ℕ
word_bytes Little n = to_le_bytes w32 n
word_bytes Big n = to_be_bytes w32 n

abbrev pub words_bytes : Order → List ℕ → List ℕ
words_bytes order words = flat_map (word_bytes order) words

-- magic, version, no flags, the header's length, and the offsets and lengths of the types and the
-- strings, from the header's end
abbrev pub header_bytes : Order → ℕ → ℕ → List ℕ
header_bytes order types names =
    half_bytes order BTF_MAGIC ++ BTF_VERSION ∷ 0
    ∷ words_bytes order (HEADER_LEN ∷ 0 ∷ types ∷ types ∷ names ∷ [])

-- a word stands for a field: at a name's offset in the strings is the name
abbrev pub StandsFor : List ℕ → Field → ℕ → Type 0
StandsFor strings (Named name) w = text_of strings w ≡ Some name
StandsFor strings (Refers r) w = w ≡ id_of r
StandsFor strings (Number n) w = w ≡ n

-- a string section ends with NUL; without a base it begins with the empty string
abbrev pub BeginsEmpty : Option Base → List ℕ → Type 0
BeginsEmpty None names = slice_get names 0 ≡ Some 0
BeginsEmpty (Some b) names = ⊤

-- the bytes are those of the own types and the own strings of a table over a base
pub record Spells (base : Option Base) (order : Order) (own : List CType)
    (names bytes : List ℕ) : Type 0 where
  pub formed : All IsWellFormed own
  pub within : RefersWithin (base_types base + length own) own
  pub words : List ℕ
  pub fields : AllZip (StandsFor (base_names base ++ names)) (flat_map fields_of own) words
  pub narrow : All (λ (w : ℕ). w < 2 ^ 32) words
  pub types_length : 4 * length words < 2 ^ 32
  pub names_length : length names < 2 ^ 32
  pub begins : BeginsEmpty base names
  pub ends : 0 < length names → slice_get names (length names - 1) ≡ Some 0
  pub whole : bytes
      ≡ header_bytes order (4 * length words) (length names) ++ words_bytes order words ++ names
