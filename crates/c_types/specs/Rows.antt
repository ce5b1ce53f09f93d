-- What is read of the row of an entry before the entry's children.
use Rattle.std.specs.Prelude.{◌≡◌, ℕ, List, Option, None, Some}
use Rattle.entry_tree.specs.Items.{Given}
use Rattle.type_attributes.specs.Scopes.{Scope}
use Rattle.type_attributes.specs.Faults.{noted}
use Rattle.type_attributes.specs.Children.{children_of}
use Rattle.type_attributes.specs.Labels.{Row}
use Rattle.c_types.specs.declared.rows.RowStart.{RowStart}
use Rattle.c_types.specs.declared.rows.RowStart.TheVariants.{Parent, Whole}
use Rattle.type_attributes.specs.declared.source.SourceType.{SourceType}
use Rattle.type_attributes.specs.declared.fault.TypeFault.{TypeFault}
use Rattle.c_types.specs.declared.open.OpenType.{OpenType}
use Rattle.c_types.specs.Opened.{ComesTo}
use Rattle.c_types.specs.Walking.{own_of}

-- the type that is open comes to a row, given the children, and is no pointer
pub record IsParent (s : Scope) (row : List Given → Row) (k : OpenType) : Type 0 where
  pub comes : ComesTo s k row
  pub own : own_of k ≡ None

-- the type and its first refusal are those of a row, whichever children come
pub record IsWhole (row : List Given → Row) (one : SourceType) (found : Option TypeFault) : Type 0
  where
    pub made : (kids : List Given) → one ≡ (row kids).made
    pub refused : (kids : List Given) → found ≡ noted None (row kids).refused

-- a row, given the children, starts so
abbrev pub StartsRow : Scope → (List Given → Row) → RowStart → Type 0
StartsRow s row (Parent k) = IsParent s row k
StartsRow s row (Whole one found) = IsWhole row one found

-- the row of an entry of a depth, given all entries behind it, is there and starts so
pub record StartsOne (s : Scope) (depth : ℕ) (rows : List Given → Option Row) (start : RowStart)
    : Type 0 where
  pub row : List Given → Row
  pub is : (es : List Given) → rows es ≡ Some (row (children_of depth es))
  pub starts : StartsRow s row start

-- or it has none
abbrev pub StartsIn : Scope → ℕ → (List Given → Option Row) → Option RowStart → Type 0
StartsIn s depth rows None = (es : List Given) → rows es ≡ None
StartsIn s depth rows (Some start) = StartsOne s depth rows start
