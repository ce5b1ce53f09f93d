-- C declarations of BTF's types: a type part and a name part, in the notation of ISO C, 6.7.
use Rattle.std.specs.Prelude.{ℕ, zero, suc, ◌+◌, ◌==◌, ◌&&◌, ◌||◌, Bool, true, false, List, [], ◌∷◌}
use Rattle.std.specs.Prelude.{◌++◌, Option, Some, None, codes, decimal, length, slice_get}
use Rattle.std.specs.Prelude.{if◌then◌else◌}
use Rattle.std.specs.Option.{option_map_or}
use Rattle.std.specs.List.{flat_map, range_with_len}
use Rattle.c_model.specs.declared.kinds.TheConstants.{BTF_KIND_INT, BTF_KIND_PTR, BTF_KIND_ARRAY}
use Rattle.c_model.specs.declared.kinds.TheConstants.{BTF_KIND_STRUCT, BTF_KIND_UNION}
use Rattle.c_model.specs.declared.kinds.TheConstants.{BTF_KIND_ENUM, BTF_KIND_FWD, BTF_KIND_TYPEDEF}
use Rattle.c_model.specs.declared.kinds.TheConstants.{BTF_KIND_VOLATILE, BTF_KIND_CONST}
use Rattle.c_model.specs.declared.kinds.TheConstants.{BTF_KIND_RESTRICT, BTF_KIND_FUNC_PROTO}
use Rattle.c_model.specs.declared.kinds.TheConstants.{BTF_KIND_FLOAT, BTF_KIND_TYPE_TAG}
use Rattle.c_model.specs.declared.kinds.TheConstants.{BTF_KIND_ENUM64}
use Rattle.c_model.specs.declared.label.Label.{Label}
use Rattle.c_model.specs.declared.label.Part.{Part}
use Rattle.c_model.specs.declared.graph.CType.{CType}
use Rattle.c_model.specs.declared.graph.Ref.{Ref}
use Rattle.c_model.specs.declared.graph.Ref.TheVariants.{Void, Node}
use Rattle.btf_codec.specs.Fields.{target_at}
use Rattle.layout_printer.specs.Sizes.{type_of}
use Rattle.layout_printer.specs.declared.shapes.Shape.{Shape}
use Rattle.layout_printer.specs.declared.shapes.Shape.TheVariants.{Name, Tag, Pointer}
use Rattle.layout_printer.specs.declared.shapes.Shape.TheVariants.{Qualifier, Array, Function}
use Rattle.layout_printer.specs.declared.shapes.Shape.TheVariants.{Annotation, Other}

-- a declaration: what stands for the type, and what stands for the name
pub record DeclParts : Type 0 where
  pub type_part : List ℕ
  pub name_part : List ℕ

-- how a type of a kind is written
abbrev pub shape_of : ℕ → Shape
shape_of k =
    if k == BTF_KIND_INT then Name
    else if k == BTF_KIND_PTR then Pointer
    else if k == BTF_KIND_ARRAY then Array
    else if k == BTF_KIND_STRUCT then Tag
    else if k == BTF_KIND_UNION then Tag
    else if k == BTF_KIND_ENUM then Tag
    else if k == BTF_KIND_FWD then Tag
    else if k == BTF_KIND_TYPEDEF then Name
    else if k == BTF_KIND_VOLATILE then Qualifier
    else if k == BTF_KIND_CONST then Qualifier
    else if k == BTF_KIND_RESTRICT then Qualifier
    else if k == BTF_KIND_FUNC_PROTO then Function
    else if k == BTF_KIND_FLOAT then Name
    else if k == BTF_KIND_TYPE_TAG then Annotation
    else if k == BTF_KIND_ENUM64 then Tag
    else Other

-- the keyword of a tag
abbrev pub tag_word : Label → List ℕ
tag_word l =
    if l.kind == BTF_KIND_STRUCT then codes "struct"
    else if l.kind == BTF_KIND_UNION then codes "union"
    else if l.kind == BTF_KIND_FWD then (if l.flag then codes "union" else codes "struct")
    else codes "enum"

-- the name of a tag, `{...}` where it has none
abbrev pub tag_name : List ℕ → List ℕ
tag_name [] = codes "{...}"
tag_name (x ∷ xs) = x ∷ xs

abbrev pub qualifier_word : ℕ → List ℕ
qualifier_word k =
    if k == BTF_KIND_VOLATILE then codes "volatile"
    else if k == BTF_KIND_CONST then codes "const"
    else codes "restrict"

-- a space before it, where there is something
abbrev pub after_space : List ℕ → List ℕ
after_space [] = []
after_space (x ∷ xs) = 32 ∷ x ∷ xs

-- the number of an array's elements, nothing for 0
abbrev pub bound : ℕ → List ℕ
bound n = if n == 0 then [] else decimal n

-- the kind of what a reference is to; 0 for void
abbrev pub kind_of : List CType → Ref → ℕ
kind_of types r = option_map_or (λ (t : CType). t.label.kind) (type_of types r) 0

-- the type in a place of what a reference is to, and the name of the part there
abbrev pub member_type : List CType → Ref → ℕ → Ref
member_type types r k = option_map_or (λ (t : CType). target_at t.targets k) (type_of types r) Void

abbrev pub part_name : List Part → ℕ → List ℕ
part_name parts k = option_map_or (λ (p : Part). p.name) (slice_get parts k) []

abbrev pub member_name : List CType → Ref → ℕ → List ℕ
member_name types r k =
    option_map_or (λ (t : CType). part_name t.label.parts k) (type_of types r) []

-- the number of parts of what a reference is to
abbrev pub part_count : List CType → Ref → ℕ
part_count types r = option_map_or (λ (t : CType). length t.label.parts) (type_of types r) 0

-- whether it is a qualifier or a tag
abbrev pub is_passed : ℕ → Bool
is_passed k =
    (k == BTF_KIND_VOLATILE) || (k == BTF_KIND_CONST) || (k == BTF_KIND_RESTRICT)
    || (k == BTF_KIND_TYPE_TAG)

-- what stands behind at most so many qualifiers and tags
unfoldable pub past : ℕ → List CType → Ref → Ref
past zero types r = r
past (suc n) types r =
    if is_passed (kind_of types r) then past n types (member_type types r 0) else r

-- whether an array or a function stands behind qualifiers and tags, and whether a pointer does
abbrev pub leads_to_list : List CType → Ref → Bool
leads_to_list types r =
    (kind_of types (past 64 types r) == BTF_KIND_ARRAY)
    || (kind_of types (past 64 types r) == BTF_KIND_FUNC_PROTO)

abbrev pub leads_to_pointer : List CType → Ref → Bool
leads_to_pointer types r = kind_of types (past 64 types r) == BTF_KIND_PTR

-- with something before the type part
abbrev pub before : List ℕ → DeclParts → DeclParts
before front w = record { type_part = front ++ w.type_part; name_part = w.name_part }

-- with something behind the type part
abbrev pub after : DeclParts → List ℕ → DeclParts
after w back = record { type_part = w.type_part ++ back; name_part = w.name_part }

-- the attribute that a type tag is written as, as clang and GCC read it
abbrev pub attribute : List ℕ → List ℕ
attribute name = codes "__attribute__((btf_type_tag(\"" ++ (name ++ codes "\")))")

-- the declaration of a type with a word more, a qualifier or a tag's attribute: before the name
-- where the type is a pointer; else an attribute behind the type part, and a qualifier before it
abbrev pub with_word : Bool → (Ref → List ℕ → DeclParts) → List CType → List ℕ → Ref → List ℕ
    → DeclParts
with_word is_tag rest types word r d =
    if leads_to_pointer types r then rest r (word ++ after_space d)
    else if is_tag then after (rest r d) (32 ∷ word)
    else before (word ++ codes " ") (rest r d)

-- the declaration of a type by its shape, given those of the types behind it and the text of its
-- parameters
abbrev pub decl_by : (Ref → List ℕ → DeclParts) → List CType → List ℕ → Shape → CType
    → List ℕ → DeclParts
decl_by rest types list Name t d = record { type_part = t.label.name; name_part = d }
decl_by rest types list Tag t d =
    record { type_part = tag_word t.label ++ 32 ∷ tag_name t.label.name; name_part = d }
decl_by rest types list Pointer t d =
    rest (target_at t.targets 0) (if leads_to_list types (target_at t.targets 0)
    then codes "(*" ++ (d ++ codes ")") else codes "*" ++ d)
decl_by rest types list Qualifier t d =
    with_word false rest types (qualifier_word t.label.kind) (target_at t.targets 0) d
decl_by rest types list Array t d =
    rest (target_at t.targets 0) (d ++ (codes "[" ++ (bound t.label.extra ++ codes "]")))
decl_by rest types list Function t d =
    rest (target_at t.targets 0) (d ++ (codes "(" ++ (list ++ codes ")")))
decl_by rest types list Annotation t d =
    with_word true rest types (attribute t.label.name) (target_at t.targets 0) d
decl_by rest types list Other t d = record { type_part = codes "?"; name_part = d }

abbrev pub decl_at : (Ref → List ℕ → DeclParts) → List CType → List ℕ → Option CType
    → List ℕ → DeclParts
decl_at rest types list None d = record { type_part = codes "void"; name_part = d }
decl_at rest types list (Some t) d = decl_by rest types list (shape_of t.label.kind) t d

-- the declaration of a name of a type, where at most so many types are followed, given the texts of
-- parameters
unfoldable pub decl_in : (Ref → List ℕ) → ℕ → List CType → Ref → List ℕ → DeclParts
decl_in lists zero types r d = record { type_part = codes "..."; name_part = d }
decl_in lists (suc n) types r d =
    decl_at (decl_in lists n types) types (lists r) (type_of types r) d

-- in a parameter every list of parameters is written `...`
abbrev pub ellipsis : Ref → List ℕ
ellipsis r = codes "..."

abbrev pub parameter_decl : List CType → Ref → List ℕ → DeclParts
parameter_decl types r name = decl_in ellipsis 64 types r name

abbrev pub is_void : Ref → Bool
is_void Void = true
is_void (Node x) = false

-- a parameter; the last one without a name and of void stands for any more
abbrev pub parameter_text : List CType → Bool → Ref → List ℕ → List ℕ
parameter_text types last r name =
    if last && ((length name == 0) && is_void r) then codes "..."
    else (parameter_decl types r name).type_part
    ++ after_space (parameter_decl types r name).name_part

-- the parameter of a function in a place, behind a comma where it is not the first
abbrev pub parameter_at : List CType → Ref → ℕ → List ℕ
parameter_at types r k =
    (if k == 0 then [] else codes ", ") ++ parameter_text types (k + 1 == part_count types r)
    (member_type types r (k + 1)) (member_name types r k)

-- the parameters of a function, `void` where there are none
abbrev pub parameters : List CType → Ref → List ℕ
parameters types r =
    if part_count types r == 0 then codes "void"
    else flat_map (parameter_at types r) (range_with_len 0 (part_count types r))

-- only functions have parameters
abbrev pub list_at : List CType → Ref → List ℕ
list_at types r = if kind_of types r == BTF_KIND_FUNC_PROTO then parameters types r else []

-- the declaration of a name of a type: 64 types are followed, and what is behind them is written
-- `...`
abbrev pub decl : List CType → Ref → List ℕ → DeclParts
decl types r name = decl_in (list_at types) 64 types r name

-- the working form: with something before and behind the type part
abbrev pub around : List ℕ → DeclParts → List ℕ → DeclParts
around front w back = before front (after w back)

-- what is written where no type is left
abbrev pub whole_decl : List ℕ → List ℕ → List ℕ → DeclParts
whole_decl front d back = record { type_part = front ++ back; name_part = d }

-- what is written so far before and behind the type part, and the type that is next
abbrev pub leads : (Ref → List ℕ → DeclParts) → List ℕ → List ℕ → List ℕ → Option Ref → DeclParts
leads rest front d back None = whole_decl front d back
leads rest front d back (Some r) = around front (rest r d) back
