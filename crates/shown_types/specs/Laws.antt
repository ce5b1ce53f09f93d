-- What the definitions say of every table that is shown.
use Rattle.std.specs.Prelude.{◌≡◌, ◌⊎◌, ℕ, List, Option, Result, Err}
use Rattle.c_model.specs.declared.graph.CType.{CType}
use Rattle.layout_printer.specs.Layout.{IsLayout}
use Rattle.layout_printer.specs.declared.slots.TypeLayout.{TypeLayout}
use Rattle.shown_types.specs.Shown.{IsText, Shows}
use Rattle.shown_types.specs.declared.fault.ShowFault.{ShowFault}
use Rattle.shown_types.specs.declared.fault.ShowFault.TheVariants.{Memory}
use Rattle.shown_types.specs.declared.showing.Style.{Style}

-- an id has one layout, where pointers have so many bytes
abbrev pub LayoutIsOne : Type 0
LayoutIsOne = (types : List CType) (pointer id : ℕ) (a b : TypeLayout)
    → IsLayout types pointer id a → IsLayout types pointer id b → a ≡ b

-- some places have one text
abbrev pub TextIsOne : Type 0
TextIsOne = (types : List CType) (pointer : ℕ) (style : Style) (places a b : List ℕ)
    → IsText types pointer style places a → IsText types pointer style places b → a ≡ b

-- the same is answered for the same types, with the same width of pointers, unless memory runs out
abbrev pub AnswerIsOne : Type 0
AnswerIsOne =
    (types : List CType) (from pointer : ℕ) (names : Option (List (List ℕ))) (style : Style)
    (a b : Result (List ℕ) ShowFault)
    → Shows types from pointer names style a → Shows types from pointer names style b
    → (a ≡ Err Memory) ⊎ ((b ≡ Err Memory) ⊎ (a ≡ b))
