-- The text that shows a layout. Texts are lists of bytes: 9 is a tab, 10 the end of a line, 32 a
-- space.
use Rattle.std.specs.Prelude.{ℕ, ◌+◌, ◌*◌, ◌-◌, ◌/◌, ◌%◌, ◌==◌, ◌&&◌, ◌||◌, nat_lt, Bool, List, []}
use Rattle.std.specs.Prelude.{◌∷◌, ◌++◌, codes, decimal, length, take, slice_get, sum_by, count_by}
use Rattle.std.specs.Prelude.{if◌then◌else◌}
use Rattle.std.specs.Option.{option_map_or}
use Rattle.std.specs.List.{flat_map, list_all, range_with_len}
use Rattle.c_model.specs.declared.kinds.TheConstants.{BTF_KIND_UNION, BTF_KIND_TYPEDEF}
use Rattle.c_model.specs.declared.graph.CType.{CType}
use Rattle.c_model.specs.declared.graph.Ref.{Ref}
use Rattle.layout_printer.specs.Sizes.{ref_of, type_of}
use Rattle.layout_printer.specs.Pieces.{count_text, left, right}
use Rattle.layout_printer.specs.Declarations.{DeclParts, decl, kind_of, member_name, member_type}
use Rattle.layout_printer.specs.declared.slots.Slot.{Slot}
use Rattle.layout_printer.specs.declared.slots.TypeLayout.{TypeLayout}

abbrev pub concat : List (List ℕ) → List ℕ
concat [] = []
concat (x ∷ xs) = x ++ concat xs

-- the name of what a reference is to; empty for void
abbrev pub name_of : List CType → Ref → List ℕ
name_of types r = option_map_or (λ (t : CType). t.label.name) (type_of types r) []

-- how many holes have whole bytes
abbrev pub byte_holes : List Slot → ℕ
byte_holes slots = count_by (λ (s : Slot). nat_lt 0 (s.hole / 8)) slots

-- the line of an id: its name, its size in bytes and the number of its holes with whole bytes
abbrev pub sizes_line : List CType → ℕ → TypeLayout → List ℕ
sizes_line types id shown =
    concat (name_of types (ref_of id) ∷ codes "\t" ∷ decimal shown.size ∷ codes "\t" ∷ decimal
    (byte_holes shown.slots) ∷ codes "\n" ∷ [])

-- whether an id is a typedef, and the keyword of the structure or union that is shown
abbrev pub is_typedef : List CType → ℕ → Bool
is_typedef types id = kind_of types (ref_of id) == BTF_KIND_TYPEDEF

abbrev pub structure_word : List CType → ℕ → List ℕ
structure_word types id =
    if kind_of types (ref_of id) == BTF_KIND_UNION then codes "union" else codes "struct"

-- the first line, and the last
abbrev pub head_text : List CType → ℕ → ℕ → List ℕ
head_text types id structure =
    if is_typedef types id
    then concat (codes "typedef " ∷ structure_word types structure ∷ codes " {\n" ∷ [])
    else concat
    (structure_word types structure ∷ codes " " ∷ name_of types (ref_of id) ∷ codes " {\n" ∷ [])

abbrev pub foot_text : List CType → ℕ → List ℕ
foot_text types id =
    if is_typedef types id then concat (codes "} " ∷ name_of types (ref_of id) ∷ codes ";\n" ∷ [])
    else codes "};\n"

-- the lines of a hole of so many bits
abbrev pub hole_text : ℕ → List ℕ
hole_text hole =
    (if nat_lt 0 hole then codes "\n" else [])
    ++ (count_text (codes "\t/* XXX ") (hole % 8) (codes " bits hole, try to pack */\n")
    ++ (count_text (codes "\t/* XXX ") (hole / 8) (codes " bytes hole, try to pack */\n")
    ++ (if nat_lt 0 hole then codes "\n" else [])))

-- the cache line that a member begins in, where cache lines have so many bytes
abbrev pub line_of : ℕ → Slot → ℕ
line_of line s = s.start / 8 / line

-- whether a member is the first that begins in a line or behind it, which is not line 0
abbrev pub opens : ℕ → List Slot → ℕ → Bool
opens line earlier n = nat_lt 0 n && list_all (λ (e : Slot). nat_lt (line_of line e) n) earlier

-- the line of a boundary, and how many bytes ago it was
abbrev pub ago_text : ℕ → List ℕ
ago_text bytes = count_text (codes "was ") bytes (codes " bytes ago ")

abbrev pub boundary_line : ℕ → ℕ → ℕ → List ℕ
boundary_line number boundary byte =
    concat (codes "\t/* --- cacheline " ∷ decimal number ∷ codes " boundary (" ∷ decimal boundary
    ∷ codes " bytes) " ∷ [])
    ++ (ago_text (byte - boundary) ++ codes "--- */\n")

abbrev pub boundary_text : ℕ → List Slot → Slot → List ℕ
boundary_text line earlier s =
    if opens line earlier (line_of line s)
    then boundary_line (line_of line s) (line_of line s * line) (s.start / 8) else []

-- where a member lies, in bytes or in bits
abbrev pub is_in_bits : Slot → Bool
is_in_bits s = s.field || nat_lt 0 (s.start % 8)

abbrev pub place_text : Slot → List ℕ
place_text s =
    if is_in_bits s then concat (codes "/* " ∷ right (s.start / 8) 5 ∷ codes ":" ∷ decimal
    (s.start % 8) ∷ codes " " ∷ right s.bits 3 ∷ codes " */\n" ∷ [])
    else concat (codes "/* " ∷ right (s.start / 8) 5 ∷ codes " " ∷ right (s.bits / 8) 5
    ∷ codes " */\n" ∷ [])

-- the name part of a member, with the width of a bit field
abbrev pub name_text : List ℕ → Slot → List ℕ
name_text name s =
    name ++ ((if s.field then concat (codes ":" ∷ decimal s.bits ∷ []) else []) ++ codes ";")

-- the line of a declaration
abbrev pub declaration_text : List ℕ → List ℕ → Slot → List ℕ
declaration_text type name s =
    concat (codes "\t" ∷ left type 26 ∷ codes " " ∷ left name 21 ∷ codes " " ∷ []) ++ place_text s

abbrev pub member_line : DeclParts → Slot → List ℕ
member_line w s = declaration_text w.type_part (name_text w.name_part s) s

-- the declaration of the member in a place
abbrev pub member_decl : List CType → Ref → ℕ → DeclParts
member_decl types r k = decl types (member_type types r k) (member_name types r k)

-- the lines of a member by its declaration, given the slots of the earlier ones and its own
abbrev pub slot_text : ℕ → List Slot → DeclParts → Slot → List ℕ
slot_text line earlier w s =
    hole_text s.hole ++ (boundary_text line earlier s ++ member_line w s)

-- the lines of the member in a place
abbrev pub member_text : List CType → Ref → ℕ → List Slot → ℕ → Slot → List ℕ
member_text types r line earlier k s = slot_text line earlier (member_decl types r k) s

abbrev pub member_at : List CType → Ref → ℕ → List Slot → ℕ → List ℕ
member_at types r line slots k =
    option_map_or (member_text types r line (take k slots) k) (slice_get slots k) []

abbrev pub members_text : List CType → Ref → ℕ → List Slot → List ℕ
members_text types r line slots =
    flat_map (member_at types r line slots) (range_with_len 0 (length slots))

-- sums over all members
abbrev pub bit_holes : List Slot → ℕ
bit_holes slots = count_by (λ (s : Slot). nat_lt 0 (s.hole % 8)) slots

abbrev pub all_bits : List Slot → ℕ
all_bits slots = sum_by (λ (s : Slot). s.bits) slots

abbrev pub hole_bytes : List Slot → ℕ
hole_bytes slots = sum_by (λ (s : Slot). s.hole / 8) slots

abbrev pub hole_bits : List Slot → ℕ
hole_bits slots = sum_by (λ (s : Slot). s.hole % 8) slots

-- the lines behind the members
abbrev pub size_text : ℕ → TypeLayout → List ℕ
size_text line shown =
    concat
    (codes "\n\t/* size: "
    ∷ decimal shown.size
    ∷ codes ", cachelines: "
    ∷ decimal ((shown.size + line - 1) / line)
    ∷ codes ", members: "
    ∷ decimal (length shown.slots)
    ∷ codes " */\n"
    ∷ [])

abbrev pub byte_holes_text : ℕ → ℕ → ℕ → List ℕ
byte_holes_text bits holes bytes =
    if nat_lt 0 holes then
    concat (codes "\t/* sum members: " ∷ decimal (bits / 8) ∷ codes ", holes: " ∷ decimal holes
    ∷ codes ", sum holes: " ∷ decimal bytes ∷ codes " */\n" ∷ [])
    else []

abbrev pub bit_holes_text : ℕ → ℕ → List ℕ
bit_holes_text holes bits =
    if nat_lt 0 holes then concat (codes "\t/* bit holes: " ∷ decimal holes
    ∷ codes ", sum bit holes: " ∷ decimal bits ∷ codes " bits */\n" ∷ []) else []

abbrev pub holes_text : List Slot → List ℕ
holes_text slots = byte_holes_text (all_bits slots) (byte_holes slots) (hole_bytes slots)
    ++ bit_holes_text (bit_holes slots) (hole_bits slots)

abbrev pub padding_text : ℕ → List ℕ
padding_text padding =
    count_text (codes "\t/* padding: ") (padding / 8) (codes " */\n")
    ++ count_text (codes "\t/* bit_padding: ") (padding % 8) (codes " bits */\n")

abbrev pub last_line_text : ℕ → ℕ → List ℕ
last_line_text line size =
    count_text (codes "\t/* last cacheline: ") (size % line) (codes " bytes */\n")

abbrev pub summary_text : ℕ → TypeLayout → List ℕ
summary_text line shown = size_text line shown
    ++ (holes_text shown.slots ++ (padding_text shown.padding ++ last_line_text line shown.size))

-- the text of an id, which is the layout's or a typedef of it, where cache lines have so many bytes
unfoldable pub text_of : List CType → ℕ → TypeLayout → ℕ → List ℕ
text_of types id shown line =
    head_text types id shown.id
    ++ (members_text types (ref_of shown.id) line shown.slots
    ++ (summary_text line shown ++ foot_text types id))
