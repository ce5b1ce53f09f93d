-- The bytes of a table whose strings give each name its offset.
use Rattle.std.specs.Prelude.{ℕ, ◌+◌, ◌*◌, ◌<◌, ◌≤◌, ◌^◌, List, ◌++◌, length, map, drop, All}
use Rattle.std.specs.Prelude.{IsSome, unwrap_or, Option, None, Some}
use Rattle.std.specs.List.{flat_map}
use Rattle.dw_base.specs.declared.numbers.Order.{Order}
use Rattle.c_model.specs.Graph.{IsBelow}
use Rattle.c_model.specs.declared.label.Part.{Part}
use Rattle.c_model.specs.declared.graph.CType.{CType}
use Rattle.btf_strings.specs.Names.{Names, offset_of, own_section}
use Rattle.btf_codec.specs.Fields.{Field, Named, Refers, Number, fields_of, id_of}
use Rattle.btf_codec.specs.Spells.{Base, header_bytes, words_bytes}

-- the word of a field, by the offsets that the strings give
abbrev pub word_of : Names → Field → ℕ
word_of strings (Named name) = unwrap_or (offset_of strings name) 0
word_of strings (Refers r) = id_of r
word_of strings (Number n) = n

abbrev pub words_of : Names → List Field → List ℕ
words_of strings fields = map (word_of strings) fields

-- the words of types
abbrev pub types_words : Names → List CType → List ℕ
types_words strings types = words_of strings (flat_map fields_of types)

-- the bytes of the own types and the own strings
unfoldable pub spelling_of : Order → Names → List CType → List ℕ
spelling_of order strings own =
    header_bytes order (4 * length (types_words strings own)) (length (own_section strings))
    ++ words_bytes order (types_words strings own)
    ++ own_section strings

-- a name has an offset
abbrev pub HasOffset : Names → List ℕ → Type 0
HasOffset strings name = IsSome (offset_of strings name)

-- the names of a type and of its parts have offsets
pub record HasOffsets (strings : Names) (t : CType) : Type 0 where
  pub name : HasOffset strings t.label.name
  pub parts : All (λ (p : Part). HasOffset strings p.name) t.label.parts

-- the names of a type have offsets, and its references are below a number
pub record IsReadyType (strings : Names) (count : ℕ) (t : CType) : Type 0 where
  pub offsets : HasOffsets strings t
  pub within : All (IsBelow count) t.targets

-- what the writer asks of a table
pub record IsReady (types : List CType) (first : ℕ) (strings : Names) : Type 0 where
  pub few : length types < 2 ^ 32
  pub base : first ≤ length types
  pub each : All (IsReadyType strings (length types)) (drop first types)
  pub fits : 4 * length (flat_map fields_of (drop first types))
      + length (own_section strings) < 2 ^ 32

-- the base of a table: the types that come first, and the section that its strings go on from
abbrev pub base_of : ℕ → Option (List ℕ) → Option Base
base_of types None = None
base_of types (Some section) = Some (record { types = types; names = section })
