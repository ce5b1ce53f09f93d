-- The tree of a unit, by tiling and counting (DWARF 5, sections 7.5.2 and 7.5.3).
--
-- The items of a unit follow one another from its first entry on. An item is a null, which is the
-- code 0, or an entry, which is the code of an abbreviation and one value for each of its pairs. The
-- lists open before an item are the entries with children before it, less the nulls before it. The
-- first item is the root. Behind it there are entries only as long as a list is open; after that all
-- items are nulls. The depth of an entry is the number of lists open before it.
use Rattle.std.specs.Prelude.{ℕ, ◌≡◌, ◌≢◌, ◌+◌, ◌-◌, ◌<◌, ◌≤◌, ◌↔◌, true, List, [], ◌∷◌, ◌++◌}
use Rattle.std.specs.Prelude.{length, Option, None, Some, Ok, if◌then◌else◌}
use Rattle.dw_base.specs.Leb128.{uleb_of}
use Rattle.dwarf_abbrev.specs.Declarations.{Declaration, declaration_with}
use Rattle.dwarf_forms.specs.Values.{Shown, Within}
use Rattle.entry_tree.specs.Reads.{values_at}
use Rattle.entry_tree.specs.Items.{Given, coming_from, is_root}

-- an entry, by its abbreviation and its values; or a null
pub record Found : Type 0 where
  pub declaration : Declaration
  pub values : List (ℕ × Shown)

pub record Item : Type 0 where
  pub at : ℕ
  pub entry : Option Found

-- the entries with children
abbrev pub opening : Option Found → ℕ
opening None = 0
opening (Some e) = if e.declaration.children then 1 else 0

abbrev pub opened_by : List Item → ℕ
opened_by [] = 0
opened_by (i ∷ is) = opening i.entry + opened_by is

-- the nulls
abbrev pub closing : Option Found → ℕ
closing None = 1
closing (Some e) = 0

abbrev pub closed_by : List Item → ℕ
closed_by [] = 0
closed_by (i ∷ is) = closing i.entry + closed_by is

-- the lists open behind some items
abbrev pub open_behind : List Item → ℕ
open_behind items = opened_by items - closed_by items

-- an entry may stand behind these items: it is the root, or a list is open
abbrev pub MayStand : List Item → Declaration → Type 0
MayStand [] d = is_root d.tag ≡ true
MayStand (i ∷ is) d = 0 < open_behind (i ∷ is)

-- the item at a place, and the place where it ends
abbrev pub IsFound : Within → List Declaration → List Item → ℕ → Option Found → ℕ → Type 0
IsFound c declarations before at None end = (0 < length before) × (uleb_of c.unit at ≡ Ok (0, end))
IsFound c declarations before at (Some e) end =
    (code from : ℕ) × (uleb_of c.unit at ≡ Ok (code, from)) × (code ≢ 0)
    × (declaration_with code declarations ≡ Some e.declaration)
    × (values_at c e.declaration.specs from ≡ Ok (e.values, end)) × MayStand before e.declaration

abbrev pub IsItem : Within → List Declaration → List Item → Item → ℕ → Type 0
IsItem c declarations before i end =
    (i.at < length c.unit) × IsFound c declarations before i.at i.entry end

-- items that follow one another from a place to another, behind some others
abbrev pub Follow : Within → List Declaration → List Item → ℕ → List Item → ℕ → Type 0
Follow c declarations before at [] end = at ≡ end
Follow c declarations before at (i ∷ is) end = (i.at ≡ at) × (mid : ℕ)
    × IsItem c declarations before i mid × Follow c declarations (before ++ i ∷ []) mid is end

-- the entries among some items, each with its depth
abbrev pub entry_of : List Item → ℕ → Option Found → List Given
entry_of before at None = []
entry_of before at (Some e) =
    record { at = at; depth = open_behind before; tag = e.declaration.tag; values = e.values } ∷ []

abbrev pub entries_among : List Item → List Item → List Given
entries_among before [] = []
entries_among before (i ∷ is) = entry_of before i.at i.entry ++ entries_among (before ++ i ∷ []) is

-- the items of a unit are a tree: they leave no byte and no list open, and there is a root
pub record IsTree (c : Within) (declarations : List Declaration) (first : ℕ)
    (items : List Item) : Type 0 where
  pub end : ℕ
  pub follow : Follow c declarations [] first items end
  pub whole : length c.unit ≤ end
  pub closed : open_behind items ≡ 0
  pub rooted : 0 < length items

-- a walk gives the entries of a tree, without a fault, exactly where the items of the unit are that
-- tree
abbrev pub EntriesAreTree : Type 0
EntriesAreTree =
    (c : Within) (declarations : List Declaration) (first : ℕ) (es : List Given)
    → (coming_from c declarations first first 0 ≡ record { entries = es; ending = None }) ↔
    ((items : List Item) × IsTree c declarations first items × (es ≡ entries_among [] items))
