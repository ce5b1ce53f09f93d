-- The names of a table and their offsets (the Linux kernel's BTF documentation, "String Encoding").
use Rattle.std.specs.Prelude.{ℕ, zero, suc, ◌+◌, ◌==◌, ◌&&◌, Bool, true, false, List, [], ◌∷◌}
use Rattle.std.specs.Prelude.{◌++◌, length, filter, not, is_none, slice_index_or, is_some}
use Rattle.std.specs.Prelude.{Option, None, Some, if◌then◌else◌}
use Rattle.std.specs.List.{flat_map}
use Rattle.std.specs.Option.{option_or}
use Rattle.std.specs.Str.{bytes_eq}
use Rattle.dw_base.specs.Texts.{text_of}

-- the base's section, where the table has a base, and the names that have a place in the own
-- section, in order
pub record Names : Type 0 where
  pub base : Option (List ℕ)
  pub own : List (List ℕ)

-- the base's section; empty without a base
abbrev pub base_section : Option (List ℕ) → List ℕ
base_section None = []
base_section (Some section) = section

-- without a base the own section begins with the empty string, one NUL; with one it begins with
-- nothing
abbrev pub first_string : Option (List ℕ) → List ℕ
first_string None = 0 ∷ []
first_string (Some section) = []

-- a name and its NUL
abbrev pub with_nul : List ℕ → List ℕ
with_nul name = name ++ 0 ∷ []

-- the own section
unfoldable pub own_section : Names → List ℕ
own_section t = first_string t.base ++ flat_map with_nul t.own

-- offsets count on from the base's section
abbrev pub all_strings : Names → List ℕ
all_strings t = base_section t.base ++ own_section t

-- where the next new name comes
abbrev pub next_offset : Names → ℕ
next_offset t = length (all_strings t)

-- a string begins at the section's first byte and after each NUL
abbrev pub begins_string : List ℕ → ℕ → Bool
begins_string section zero = true
begins_string section (suc before) = slice_index_or section before 1 == 0

abbrev pub is_text : List ℕ → Option (List ℕ) → Bool
is_text name None = false
is_text name (Some text) = bytes_eq name text

-- the name is a whole string of the section: a string begins there, and the text up to the next NUL
-- is the name
abbrev pub stands_whole : List ℕ → List ℕ → ℕ → Bool
stands_whole section name at = begins_string section at && is_text name (text_of section at)

-- the least number below a bound that passes the test
unfoldable pub least_below : (ℕ → Bool) → ℕ → Option ℕ
least_below test zero = None
least_below test (suc n) = option_or (least_below test n) (if test n then Some n else None)

-- the least offset at which the base's section holds the name
abbrev pub base_offset : Option (List ℕ) → List ℕ → Option ℕ
base_offset None name = None
base_offset (Some section) name = least_below (stands_whole section name) (length section)

-- the offset of a name among names that stand one after another from an offset on, each with its
-- NUL
unfoldable pub offset_among : ℕ → List (List ℕ) → List ℕ → Option ℕ
offset_among at [] name = None
offset_among at (n ∷ ns) name =
    if bytes_eq name n then Some at else offset_among (at + length n + 1) ns name

-- where the own names begin
abbrev pub first_offset : Option (List ℕ) → ℕ
first_offset base = length (base_section base) + length (first_string base)

-- the empty name has 0, a name that the base holds its least offset there, and an own name the
-- place where it stands
unfoldable pub offset_of : Names → List ℕ → Option ℕ
offset_of t [] = Some 0
offset_of t (b ∷ bs) =
    option_or (base_offset t.base (b ∷ bs)) (offset_among (first_offset t.base) t.own (b ∷ bs))

abbrev pub is_empty : List ℕ → Bool
is_empty [] = true
is_empty (b ∷ bs) = false

-- a name that has a place of its own: not the empty one, and none of the base's
abbrev pub is_own : Option (List ℕ) → List ℕ → Bool
is_own base name = not (is_empty name) && is_none (base_offset base name)

-- a list without the repeats: each name at its first place
unfoldable pub first_places : List (List ℕ) → List (List ℕ)
first_places [] = []
first_places (n ∷ ns) = n ∷ filter (λ (m : List ℕ). not (bytes_eq n m)) (first_places ns)

-- the own names of the table of a list of names
abbrev pub own_names : Option (List ℕ) → List (List ℕ) → List (List ℕ)
own_names base names = first_places (filter (is_own base) names)

-- the table with one more name: a name without an offset is appended
abbrev pub with_name : Names → List ℕ → Names
with_name t name = if is_some (offset_of t name) then t else record t { own = t.own ++ name ∷ [] }
