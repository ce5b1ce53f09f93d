-- What a table of names keeps.
use Rattle.std.specs.Prelude.{◌≡◌, ℕ, ◌+◌, ◌<◌, ◌≤◌, ◌^◌, List, [], ◌∷◌, length, map, Option, ⊤}
use Rattle.std.specs.Prelude.{IfSome, slice_get, None, Some, if◌then◌else◌}
use Rattle.std.specs.Option.{option_or}
use Rattle.std.specs.Map.{lookup}
use Rattle.std.specs.Str.{bytes_eq}
use Rattle.btf_strings.specs.Names.{Names, base_offset, first_offset, offset_of, own_section}

-- the names with places, in order
abbrev pub names_of : List (List ℕ × ℕ) → List (List ℕ)
names_of entries = map (λ (e : List ℕ × ℕ). e.0) entries

-- the value of a name among names and values
abbrev pub value_of : List ℕ → List (List ℕ × ℕ) → Option ℕ
value_of name entries = lookup (λ (k : List ℕ). bytes_eq name k) entries

-- a string is noted with its place, unless it was noted before
abbrev pub Notes : List (List ℕ × ℕ) → List (List ℕ × ℕ) → List ℕ → ℕ → Type 0
Notes old new text at = (name : List ℕ) → value_of name new
    ≡ option_or (value_of name old) (if bytes_eq name text then Some at else None)

-- the values are the offsets of names that stand one after another, and none is past the last
abbrev pub ArePlaced : ℕ → List (List ℕ × ℕ) → Type 0
ArePlaced at [] = ⊤
ArePlaced at (e ∷ es) = (e.1 ≡ at) × (at ≤ 0x00ff_ffff) × ArePlaced (at + length e.0 + 1) es

-- a base's section has fewer than 2^32 bytes and begins with NUL
pub record IsSection (section : List ℕ) : Type 0 where
  pub few : length section < 2 ^ 32
  pub empty : slice_get section 0 ≡ Some 0

-- what holds of each table of names: each offset fits a word of 4 bytes
pub record IsSound (t : Names) : Type 0 where
  pub section : IfSome t.base IsSection
  pub narrow : (name : List ℕ) (at : ℕ) → offset_of t name ≡ Some at → at < 2 ^ 32

-- what holds of the parts of each table of names
pub record IsKept (base : Option (List ℕ)) (base_offsets : List (List ℕ × ℕ)) (own : List ℕ)
    (places : List (List ℕ × ℕ)) : Type 0 where
  pub section : IfSome base IsSection
  pub index : (name : List ℕ) → value_of name base_offsets ≡ base_offset base name
  pub bytes : own ≡ own_section (record { base = base; own = names_of places })
  pub placed : ArePlaced (first_offset base) places
