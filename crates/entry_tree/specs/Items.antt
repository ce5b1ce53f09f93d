-- The items of a unit.
use Rattle.std.specs.Prelude.{ℕ, zero, suc, ◌+◌, ◌-◌, Bool, not, List, [], ◌∷◌, length, nat_le}
use Rattle.std.specs.Prelude.{Option, None, Some, Result, Ok, Err, ◌==◌, ◌&&◌, ◌||◌, if◌then◌else◌}
use Rattle.dw_base.specs.Leb128.{uleb_of}
use Rattle.dw_base.specs.declared.leb128.LebFault.{LebFault}
use Rattle.dw_base.specs.declared.leb128.LebFault.TheVariants.{Truncated, TooWide}
use Rattle.dwarf_abbrev.specs.declared.constants.TheConstants.{DW_TAG_compile_unit}
use Rattle.dwarf_abbrev.specs.declared.constants.TheConstants.{DW_TAG_partial_unit}
use Rattle.dwarf_abbrev.specs.Declarations.{Declaration, declaration_with}
use Rattle.dwarf_abbrev.specs.Rows.{shown}
use Rattle.dwarf_forms.specs.declared.fault.FormFault.{FormFault}
use Rattle.dwarf_forms.specs.declared.fault.FormFault.TheVariants.{LebWide, ValueTruncated}
use Rattle.dwarf_forms.specs.Values.{Shown, Within}
use Rattle.entry_tree.specs.Reads.{values_at, ends_at}
use Rattle.entry_tree.specs.declared.fault.WalkFault.{WalkFault}
use Rattle.entry_tree.specs.declared.fault.WalkFault.TheVariants.{UnitRoot, AbbrevMissing, Form}
use Rattle.entry_tree.specs.declared.fault.WalkFault.TheVariants.{TreeOpen, AfterRoot}
use Rattle.entry_tree.specs.declared.walk.Item.{Item}
use Rattle.entry_tree.specs.declared.walk.Item.TheVariants as items

infixl 10 ◌>>=◌
abbrev pub ◌>>=◌ : {A B : Type 0} → Result A WalkFault → (A → Result B WalkFault)
    → Result B WalkFault
(Ok x) >>= f = f x
(Err e) >>= f = Err e

abbrev pub seen : {A B : Type 0} → (A → B) → Result A WalkFault → Result B WalkFault
seen view (Ok x) = Ok (view x)
seen view (Err e) = Err e

-- what stands at a place: nothing more, a null and the place after it, or an entry with the place
-- of its values and that after them
pub data Standing : Type 0 where
  nothing : Standing
  null : ℕ → Standing
  entry : Declaration → ℕ → ℕ → Standing

abbrev pub shown_item : Item → Standing
shown_item items.End = nothing
shown_item (items.Null end) = null end
shown_item (items.Found a from end) = entry (shown a) from end

abbrev pub of_code : {A : Type 0} → ℕ → Result A LebFault → Result A WalkFault
of_code at (Ok x) = Ok x
of_code at (Err Truncated) = Err (Form at (ValueTruncated 0))
of_code at (Err TooWide) = Err (Form at (LebWide at))

abbrev pub code_at : List ℕ → ℕ → Result (ℕ × ℕ) WalkFault
code_at unit at = of_code at (uleb_of unit at)

abbrev pub or_missing : ℕ → ℕ → Option Declaration → Result Declaration WalkFault
or_missing at code None = Err (AbbrevMissing at code)
or_missing at code (Some r) = Ok r

abbrev pub of_form : {A : Type 0} → ℕ → Result A FormFault → Result A WalkFault
of_form at (Ok x) = Ok x
of_form at (Err e) = Err (Form at e)

abbrev pub is_root : ℕ → Bool
is_root tag = tag == DW_TAG_compile_unit || tag == DW_TAG_partial_unit

-- the item at a place, with so many lists open
unfoldable pub item_at : Within → List Declaration → ℕ → ℕ → ℕ → Result Standing WalkFault
item_at c declarations first at lists =
    if nat_le (length c.unit) at
    then (if at == first then Err (UnitRoot at 0)
    else (if lists == 0 then Ok nothing else Err (TreeOpen at)))
    else (code_at c.unit at >>= λ (code : ℕ × ℕ).
    if code.0 == 0
    then (if at == first then Err (UnitRoot at 0) else Ok (null code.1))
    else (if not (at == first) && lists == 0
    then Err (AfterRoot at)
    else (or_missing at code.0 (declaration_with code.0 declarations) >>= λ (r : Declaration).
    if at == first && not (is_root r.tag)
    then Err (UnitRoot at r.tag)
    else (of_form at (ends_at c r.specs code.1) >>= λ (end : ℕ). Ok (entry r code.1 end)))))

-- an entry with its values
pub record Given : Type 0 where
  pub at : ℕ
  pub depth : ℕ
  pub tag : ℕ
  pub values : List (ℕ × Shown)

-- the entries that are still to come, and the fault after them
pub record Coming : Type 0 where
  pub entries : List Given
  pub ending : Option WalkFault

abbrev pub listed : Result (List (ℕ × Shown) × ℕ) FormFault → List (ℕ × Shown)
listed (Ok vs) = vs.0
listed (Err e) = []

abbrev pub given_at : Within → Declaration → ℕ → ℕ → ℕ → Given
given_at c r from at lists =
    record { at = at; depth = lists; tag = r.tag; values = listed (values_at c r.specs from) }

abbrev pub opened : Declaration → ℕ → ℕ
opened r lists = if r.children then lists + 1 else lists

abbrev pub with_first : Given → Coming → Coming
with_first e rest = record { entries = e ∷ rest.entries; ending = rest.ending }

abbrev pub after_item : Within → ℕ → ℕ → (ℕ → ℕ → Coming) → Result Standing WalkFault → Coming
after_item c at lists go (Err f) = record { entries = []; ending = Some f }
after_item c at lists go (Ok nothing) = record { entries = []; ending = None }
after_item c at lists go (Ok (null end)) = go end (lists - 1)
after_item c at lists go (Ok (entry r from end)) =
    with_first (given_at c r from at lists) (go end (opened r lists))

-- what comes from a place on, where at most `n` items stand
unfoldable pub coming : Within → List Declaration → ℕ → ℕ → ℕ → ℕ → Coming
coming c declarations first zero at lists = record { entries = []; ending = Some (TreeOpen at) }
coming c declarations first (suc n) at lists = after_item c at lists
    (λ next more. coming c declarations first n next more) (item_at c declarations first at lists)

abbrev pub coming_from : Within → List Declaration → ℕ → ℕ → ℕ → Coming
coming_from c declarations first at lists = coming c declarations first (length c.unit + 1) at lists
