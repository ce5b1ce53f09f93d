-- A table of abbreviations: what its bytes are, and the first piece that cannot be read.
use Rattle.std.specs.Prelude.{ℕ, ◌≡◌, ◌+◌, ℤ, pos, Bool, List, [], ◌++◌, length, slice_get, nat_lt}
use Rattle.std.specs.Prelude.{is_some, Option, None, Some, Result, Ok, Err, ◌==◌, ◌&&◌}
use Rattle.std.specs.Prelude.{if◌then◌else◌, ⊤}
use Rattle.dw_base.specs.Leb128.{uleb_of, sleb_of}
use Rattle.dw_base.specs.Collect.{collect}
use Rattle.dw_base.specs.declared.leb128.LebFault.{LebFault}
use Rattle.dw_base.specs.declared.leb128.LebFault.TheVariants.{Truncated, TooWide}
use Rattle.dwarf_abbrev.specs.declared.constants.TheConstants.{DW_FORM_implicit_const}
use Rattle.dwarf_abbrev.specs.declared.fault.AbbrevFault.{AbbrevFault}
use Rattle.dwarf_abbrev.specs.declared.fault.AbbrevFault.TheVariants.{AbbrevTruncated, AbbrevTwice}
use Rattle.dwarf_abbrev.specs.declared.fault.AbbrevFault.TheVariants.{LebWide, ChildrenByte, Memory}
use Rattle.dwarf_abbrev.specs.declared.spec.Spec.{Spec}
use Rattle.dwarf_abbrev.specs.Declarations.{Declaration, place_of}

infixl 10 ◌>>=◌
abbrev pub ◌>>=◌ : {A B : Type 0} → Result A AbbrevFault → (A → Result B AbbrevFault)
    → Result B AbbrevFault
(Ok x) >>= f = f x
(Err e) >>= f = Err e

-- what a function returned, seen by view, is what reading gives, unless memory ran out
abbrev pub Fails : {Y : Type 0} → AbbrevFault → Result Y AbbrevFault → Type 0
Fails Memory read = ⊤
Fails e read = read ≡ Err e

abbrev pub Gives : {X Y : Type 0} → (X → Y) → Result X AbbrevFault → Result Y AbbrevFault → Type 0
Gives view (Ok x) read = read ≡ Ok (view x)
Gives view (Err e) read = Fails e read

-- what was put behind a list is what reading gives
abbrev pub GivesMore : {X : Type 0} → List X → List X → Result ℕ AbbrevFault
    → Result (List X × ℕ) AbbrevFault → Type 0
GivesMore {X} old new (Ok after) read =
    (more : List X) × (new ≡ old ++ more) × (read ≡ Ok (more, after))
GivesMore old new (Err e) read = Fails e read

-- a number that is cut off is a fault of the abbreviation that begins at `start`, a wide one of its
-- own place
abbrev pub of_leb : {A : Type 0} → ℕ → ℕ → Result A LebFault → Result A AbbrevFault
of_leb start at (Ok x) = Ok x
of_leb start at (Err Truncated) = Err (AbbrevTruncated start)
of_leb start at (Err TooWide) = Err (LebWide at)

abbrev pub number_at : List ℕ → ℕ → ℕ → Result (ℕ × ℕ) AbbrevFault
number_at bytes start at = of_leb start at (uleb_of bytes at)

abbrev pub signed_at : List ℕ → ℕ → ℕ → Result (ℤ × ℕ) AbbrevFault
signed_at bytes start at = of_leb start at (sleb_of bytes at)

-- a pair, or the end of the pairs, and the place after it
unfoldable pub spec_at : List ℕ → ℕ → ℕ → Result (Option Spec × ℕ) AbbrevFault
spec_at bytes start at = do
  name ← number_at bytes start at
  form ← number_at bytes start name.1
  if form.0 == DW_FORM_implicit_const
      then (signed_at bytes start form.1 >>= λ (value : ℤ × ℕ).
      Ok (Some (record { attribute = name.0; form = form.0; implicit = value.0 }), value.1))
      else (if name.0 == 0 && form.0 == 0 then Ok (None, form.1)
      else Ok (Some (record { attribute = name.0; form = form.0; implicit = pos 0 }), form.1))

abbrev pub specs_of : List ℕ → ℕ → ℕ → Result (List Spec × ℕ) AbbrevFault
specs_of bytes start at = collect (λ (place : ℕ) (seen : List Spec). spec_at bytes start place)
    (λ (place : ℕ). AbbrevTruncated start) (length bytes) at []

-- a byte that is 0 or 1, and the place after it
abbrev pub flag_from : ℕ → ℕ → Option ℕ → Result (Bool × ℕ) AbbrevFault
flag_from start at None = Err (AbbrevTruncated start)
flag_from start at (Some b) = if nat_lt 1 b then Err (ChildrenByte at b) else Ok (b == 1, at + 1)

abbrev pub flag_at : List ℕ → ℕ → ℕ → Result (Bool × ℕ) AbbrevFault
flag_at bytes start at = flag_from start at (slice_get bytes at)

-- an abbreviation whose code none before it has, or the end of the table, and the place after it
unfoldable pub declaration_at : List ℕ → ℕ → List Declaration
    → Result (Option Declaration × ℕ) AbbrevFault
declaration_at bytes at seen = do
  code ← number_at bytes at at
  if code.0 == 0 then Ok (None, code.1)
      else (if is_some (place_of code.0 seen) then Err (AbbrevTwice at code.0) else
      (number_at bytes at code.1 >>= λ (tag : ℕ × ℕ).
      flag_at bytes at tag.1 >>= λ (children : Bool × ℕ).
      specs_of bytes at children.1 >>= λ (specs : List Spec × ℕ).
      Ok (
        Some (record { code = code.0; tag = tag.0; children = children.0; specs = specs.0 }),
        specs.1,
      )))

-- the table at a place, or its first refusal
unfoldable pub table_at : List ℕ → ℕ → Result (List Declaration) AbbrevFault
table_at bytes at = collect (declaration_at bytes) AbbrevTruncated (length bytes) at []
    >>= λ (x : List Declaration × ℕ). Ok x.0
