-- The whole text of what is shown, and why nothing is. A place is a type's number from 0; its id is
-- one more.
use Rattle.std.specs.Prelude.{ℕ, suc, ◌≡◌, ◌<◌, ◌^◌, ◌==◌, ◌++◌, codes, decimal, nat_eq, nat_le}
use Rattle.std.specs.Prelude.{is_none, not, Bool, List, [], ◌∷◌, length, map, All, ⊤, slice_get}
use Rattle.std.specs.Prelude.{find, Option, None, Some, Result, Ok, Err, if◌then◌else◌}
use Rattle.std.specs.Global.{Vec}
use Rattle.std.specs.List.{filter, flat_map, range_with_len}
use Rattle.std.specs.Map.{lookup}
use Rattle.std.specs.Option.{option_and_then, option_map, option_map_or, option_or}
use Rattle.btf_codec.specs.Fields.{id_of, target_at}
use Rattle.c_model.specs.declared.label.Part.{Part}
use Rattle.c_model.specs.Graph.{RefersWithin}
use Rattle.c_model.specs.declared.graph.CType.{CType}
use Rattle.layout_printer.specs.Layout.{bits_of, IsLayout}
use Rattle.layout_printer.specs.Sizes.{AreSizes}
use Rattle.layout_printer.specs.Text as layout
use Rattle.layout_printer.specs.declared.slots.TypeLayout.{TypeLayout}
use Rattle.shown_types.specs.Listed.{structure_at, chosen, missing}
use Rattle.shown_types.specs.declared.counting.Counted.{Counted}
use Rattle.shown_types.specs.declared.fault.ShowFault.{ShowFault}
use Rattle.shown_types.specs.declared.fault.ShowFault.TheVariants.{NoName, NoSize, Memory}
use Rattle.shown_types.specs.declared.showing.Source.{Source}
use Rattle.shown_types.specs.declared.showing.Style.{Style}

-- the offset word of a member
abbrev pub value_at : List Part → ℕ → ℕ
value_at parts k = option_map_or (λ (p : Part). p.value) (slice_get parts k) 0

-- a member's type has no size; bit fields need none
abbrev pub lacks : List CType → ℕ → CType → ℕ → Bool
lacks types pointer t k =
    is_none (bits_of types pointer t.label.flag (value_at t.label.parts k) (target_at t.targets k))

-- the id of the type of a structure's first member without a size
abbrev pub unsized_member : List CType → ℕ → CType → Option ℕ
unsized_member types pointer t =
    option_map (λ (k : ℕ). id_of (target_at t.targets k))
    (find (lacks types pointer t) (range_with_len 0 (length t.label.parts)))

-- the same of the structure that the type in a place shows
unfoldable pub no_size : List CType → ℕ → ℕ → Option ℕ
no_size types pointer x = option_and_then (unsized_member types pointer)
    (option_and_then (slice_get types) (structure_at types x))

-- and of the first place that has one
abbrev pub first_no_size : List CType → ℕ → List ℕ → Option ℕ
first_no_size types pointer [] = None
first_no_size types pointer (x ∷ xs) =
    option_or (no_size types pointer x) (first_no_size types pointer xs)

-- the layout of the structure that the type in a place shows
pub record IsShown (types : List CType) (pointer x : ℕ) (shown : TypeLayout) : Type 0 where
  pub structure : ℕ
  pub is : structure_at types x ≡ Some structure
  pub layout : IsLayout types pointer (suc structure) shown

-- a layout has as many holes of whole bytes as are asked for
abbrev pub has_holes : Style → ℕ × TypeLayout → Bool
has_holes style p = nat_le style.holes (layout.byte_holes p.1.slots)

-- the text of a type: its line, or its structure
unfoldable pub piece : List CType → Style → ℕ × TypeLayout → List ℕ
piece types style p =
    if style.sizes then layout.sizes_line types (suc p.0) p.1
    else layout.text_of types (suc p.0) p.1 style.line

-- between two structures is an empty line
abbrev pub separator : Style → List ℕ
separator style = if style.sizes then [] else 10 ∷ []

abbrev pub join_with : List ℕ → List (List ℕ) → List ℕ
join_with between [] = []
join_with between (x ∷ xs) = x ++ flat_map (λ (y : List ℕ). between ++ y) xs

abbrev pub whole : List CType → Style → List (ℕ × TypeLayout) → List ℕ
whole types style pairs =
    join_with (separator style) (map (piece types style) (filter (has_holes style) pairs))

-- the text of some places: each with its layout
pub record IsText (types : List CType) (pointer : ℕ) (style : Style)
    (places text : List ℕ) : Type 0 where
  pub pairs : List (ℕ × TypeLayout)
  pub places_are : map (λ (p : ℕ × TypeLayout). p.0) pairs ≡ places
  pub each : All (λ (p : ℕ × TypeLayout). IsShown types pointer p.0 p.1) pairs
  pub text_is : text ≡ whole types style pairs

-- what is added to a text for a type, where it has holes enough: its own text, and before it what
-- parts it from the text before
abbrev pub put_for : List CType → Style → ℕ × TypeLayout → List ℕ → List ℕ
put_for types style p old =
    if has_holes style p
    then (if not (length old == 0) then separator style else []) ++ piece types style p else []

-- what choosing answers
abbrev pub Chooses : List CType → ℕ → Option (List (List ℕ)) → Result (Vec ℕ) ShowFault → Type 0
Chooses types from names (Ok v) = (missing types names ≡ None) × (v.items ≡ chosen types from names)
Chooses types from names (Err (NoName k)) = missing types names ≡ Some k
Chooses types from names (Err (NoSize n)) = ⊥
Chooses types from names (Err Memory) = ⊤

-- the line of a layout from behind the name on, where lines are shown
abbrev pub line_end : Style → TypeLayout → List ℕ
line_end style shown =
    if style.sizes then
    layout.concat (codes "\t" ∷ decimal shown.size ∷ codes "\t" ∷ decimal
    (layout.byte_holes shown.slots) ∷ codes "\n" ∷ [])
    else []

-- what is counted of a layout is so
pub record IsCounted (style : Style) (shown : Counted) : Type 0 where
  pub holes : shown.holes ≡ layout.byte_holes shown.layout.slots
  pub line_end : shown.line_end ≡ line_end style shown.layout

-- what laying out the structure that the type in a place shows answers
abbrev pub LaysOut : List CType → ℕ → Style → ℕ → Result Counted ShowFault → Type 0
LaysOut types pointer style x (Ok counted) =
    (no_size types pointer x ≡ None) × (IsShown types pointer x counted.layout)
    × IsCounted style counted
LaysOut types pointer style x (Err (NoName k)) = ⊥
LaysOut types pointer style x (Err (NoSize n)) = no_size types pointer x ≡ Some n
LaysOut types pointer style x (Err Memory) = ⊤

-- what showing a place answers, which adds to a text
abbrev pub ShowsPlace : List CType → ℕ → Style → ℕ → List ℕ → List ℕ → Result ⊤ ShowFault → Type 0
ShowsPlace types pointer style x old new (Ok done) =
    (shown : TypeLayout) × (no_size types pointer x ≡ None) × (IsShown types pointer x shown)
    × (new ≡ old ++ put_for types style (x, shown) old)
ShowsPlace types pointer style x old new (Err (NoName k)) = ⊥
ShowsPlace types pointer style x old new (Err (NoSize n)) = no_size types pointer x ≡ Some n
ShowsPlace types pointer style x old new (Err Memory) = ⊤

-- what is kept for the structure in a place: its layout, counted
pub record IsKept (types : List CType) (pointer : ℕ) (style : Style) (s : ℕ)
    (shown : Counted) : Type 0 where
  pub layout : IsLayout types pointer (suc s) shown.layout
  pub counted : IsCounted style shown

-- so with each that is kept, by the places of their structures
abbrev pub AreKept : List CType → ℕ → Style → List (ℕ × Counted) → Type 0
AreKept types pointer style entries = (s : ℕ) (shown : Counted)
    → lookup (nat_eq s) entries ≡ Some shown → IsKept types pointer style s shown

-- a table whose types can be shown, and their sizes
pub record IsSource (s : Source) : Type 0 where
  pub few : length s.table.now.types < 2 ^ 32
  pub within : RefersWithin (length s.table.now.types) s.table.now.types
  pub sizes : AreSizes s.table.now.types s.sizes.now
  pub line : 0 < s.style.line

-- what showing some places answers
abbrev pub ShowsPlaces : List CType → ℕ → Style → List ℕ → Result (List ℕ) ShowFault → Type 0
ShowsPlaces types pointer style places (Ok text) =
    (first_no_size types pointer places ≡ None) × IsText types pointer style places text
ShowsPlaces types pointer style places (Err (NoName k)) = ⊥
ShowsPlaces types pointer style places (Err (NoSize n)) =
    first_no_size types pointer places ≡ Some n
ShowsPlaces types pointer style places (Err Memory) = ⊤

-- what showing answers: the text, or the first name that nothing has, or else the first member
-- without a size
abbrev pub Shows : List CType → ℕ → ℕ → Option (List (List ℕ)) → Style
    → Result (List ℕ) ShowFault → Type 0
Shows types from pointer names style (Ok text) =
    (missing types names ≡ None) × (first_no_size types pointer (chosen types from names) ≡ None)
    × IsText types pointer style (chosen types from names) text
Shows types from pointer names style (Err (NoName k)) = missing types names ≡ Some k
Shows types from pointer names style (Err (NoSize n)) =
    (missing types names ≡ None) × (first_no_size types pointer (chosen types from names) ≡ Some n)
Shows types from pointer names style (Err Memory) = ⊤
