-- Why a walk ends with a fault: the first item of a unit, in the order of the bytes, that can't
-- stand where it stands, and the first piece of it that can't be read or is wrong there.
use Rattle.std.specs.Prelude.{ℕ, ◌≡◌, ◌≢◌, ◌<◌, ◌≤◌, ◌↔◌, ◌⊎◌, false, List, [], ◌∷◌, ◌++◌, length}
use Rattle.std.specs.Prelude.{Option, None, Some, Ok, Err}
use Rattle.dw_base.specs.Leb128.{uleb_of}
use Rattle.dwarf_abbrev.specs.Declarations.{Declaration, declaration_with}
use Rattle.dwarf_abbrev.specs.declared.spec.Spec.{Spec}
use Rattle.dwarf_forms.specs.Values.{Shown, Within, value_of}
use Rattle.dwarf_forms.specs.Refusals.{NoNumber}
use Rattle.dwarf_forms.specs.declared.fault.FormFault.{FormFault}
use Rattle.entry_tree.specs.Reads.{values_at}
use Rattle.entry_tree.specs.Items.{Given, Coming, coming_from, is_root}
use Rattle.entry_tree.specs.Tree.{Item, open_behind, MayStand, Follow, IsTree, entries_among}
use Rattle.entry_tree.specs.declared.fault.WalkFault.{WalkFault}
use Rattle.entry_tree.specs.declared.fault.WalkFault.TheVariants.{UnitRoot, AbbrevMissing, Form}
use Rattle.entry_tree.specs.declared.fault.WalkFault.TheVariants.{TreeOpen, AfterRoot}

-- the unit ends without a root, or with a list open
abbrev pub NoEnd : List Item → ℕ → WalkFault → Type 0
NoEnd before at f =
    ((length before ≡ 0) × (f ≡ UnitRoot at 0)) ⊎ ((0 < open_behind before) × (f ≡ TreeOpen at))

-- the values of some pairs, and then one that can't be read
abbrev pub NoValues : Within → List Spec → ℕ → FormFault → Type 0
NoValues c specs at g =
    (read : List Spec) × (s : Spec) × (left : List Spec) × (specs ≡ read ++ s ∷ left)
    × (values : List (ℕ × Shown)) × (mid : ℕ) × (values_at c read at ≡ Ok (values, mid))
    × (value_of c s mid ≡ Err g)

-- a root that is neither a compilation unit nor a partial unit, or values
abbrev pub NoneOf : Within → List Item → Declaration → ℕ → ℕ → WalkFault → Type 0
NoneOf c before d at from f =
    ((length before ≡ 0) × (is_root d.tag ≡ false) × (f ≡ UnitRoot at d.tag))
    ⊎ (MayStand before d × (g : FormFault) × NoValues c d.specs from g × (f ≡ Form at g))

-- a code that no abbreviation has, or what follows it
abbrev pub NoAbbrev : Within → List Declaration → List Item → ℕ → ℕ → ℕ → WalkFault → Type 0
NoAbbrev c declarations before code at from f =
    ((declaration_with code declarations ≡ None) × (f ≡ AbbrevMissing at code)) ⊎ ((d : Declaration)
    × (declaration_with code declarations ≡ Some d) × NoneOf c before d at from f)

-- an entry behind the root's end, or what is wrong with one that may begin there: it is the root,
-- or a list is open
abbrev pub NoEntry : Within → List Declaration → List Item → ℕ → ℕ → ℕ → WalkFault → Type 0
NoEntry c declarations before code at from f =
    ((0 < length before) × (open_behind before ≡ 0) × (f ≡ AfterRoot at)) ⊎ ((0 < length before
    → 0 < open_behind before) × NoAbbrev c declarations before code at from f)

-- a null in the place of the root, or an entry
abbrev pub NoCoded : Within → List Declaration → List Item → ℕ → ℕ → ℕ → WalkFault → Type 0
NoCoded c declarations before code at from f = ((code ≡ 0) × (length before ≡ 0)
    × (f ≡ UnitRoot at 0)) ⊎ ((code ≢ 0) × NoEntry c declarations before code at from f)

-- a code that can't be read, told as the attribute 0, or what follows it
abbrev pub NoCode : Within → List Declaration → List Item → ℕ → WalkFault → Type 0
NoCode c declarations before at f =
    ((g : FormFault) × NoNumber c.unit 0 at g × (f ≡ Form at g)) ⊎ ((code from : ℕ)
    × (uleb_of c.unit at ≡ Ok (code, from)) × NoCoded c declarations before code at from f)

-- the unit's end, or an item before it
abbrev pub IsRefused : Within → List Declaration → List Item → ℕ → WalkFault → Type 0
IsRefused c declarations before at f = ((length c.unit ≤ at) × NoEnd before at f)
    ⊎ ((at < length c.unit) × NoCode c declarations before at f)

-- a walk ends with a fault exactly where items follow one another and the next one is refused with
-- that fault; then it gave their entries
abbrev pub FaultsAreFirst : Type 0
FaultsAreFirst =
    (c : Within) (declarations : List Declaration) (first : ℕ) (es : List Given) (f : WalkFault)
    → (coming_from c declarations first first 0 ≡ record { entries = es; ending = Some f })
    ↔ ((items : List Item) × (at : ℕ) × Follow c declarations [] first items at
    × (es ≡ entries_among [] items) × IsRefused c declarations items at f)

-- entries of a unit up to its end are those of the tree that its items are; up to a fault, those of
-- the items before the first one that is refused
abbrev pub AreEntriesTo : Within → List Declaration → ℕ → List Given → Option WalkFault → Type 0
AreEntriesTo c declarations first es None =
    (items : List Item) × IsTree c declarations first items × (es ≡ entries_among [] items)
AreEntriesTo c declarations first es (Some f) =
    (items : List Item) × (at : ℕ) × Follow c declarations [] first items at
    × (es ≡ entries_among [] items) × IsRefused c declarations items at f

abbrev pub AreEntries : Within → List Declaration → ℕ → Coming → Type 0
AreEntries c declarations first r = AreEntriesTo c declarations first r.entries r.ending
