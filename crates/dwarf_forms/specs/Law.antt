-- Reading a value gives what the standard lays out.
use Rattle.std.specs.Prelude.{ℕ, ◌≡◌, ◌↔◌, Result, Ok, Err}
use Rattle.dwarf_abbrev.specs.declared.spec.Spec.{Spec}
use Rattle.dwarf_forms.specs.declared.fault.FormFault.{FormFault}
use Rattle.dwarf_forms.specs.Forms.{HasWidth}
use Rattle.dwarf_forms.specs.Values.{Shown, Within, value_of}
use Rattle.dwarf_forms.specs.Standard.{IsValueIn}
use Rattle.dwarf_forms.specs.Refusals.{IsRefused}

-- what is read is the value that stands in the unit there, and a value that stands there is read
abbrev pub ValuesAreRead : Type 0
ValuesAreRead = (c : Within) → HasWidth c.offset_bytes → HasWidth c.address_bytes → (spec : Spec)
    (at : ℕ) (v : Shown) (end : ℕ) → (value_of c spec at ≡ Ok (v, end)) ↔ IsValueIn c spec at v end

-- a value is refused for the first piece of it that can't be read
abbrev pub RefusalsAreFirst : Type 0
RefusalsAreFirst = (c : Within) → HasWidth c.offset_bytes → HasWidth c.address_bytes
    → (spec : Spec) (at : ℕ) (f : FormFault) → (value_of c spec at ≡ Err f) ↔ IsRefused c spec at f

-- an answer of a reader, in the standard's words: the value that stands in the unit there and the
-- place after it, or the fault of the first piece that can't be read
abbrev pub Reads : Within → Spec → ℕ → Result (Shown × ℕ) FormFault → Type 0
Reads c spec at (Ok x) = IsValueIn c spec at x.0 x.1
Reads c spec at (Err f) = IsRefused c spec at f

-- the same of what passes a value over
abbrev pub Skips : Within → Spec → ℕ → Result ℕ FormFault → Type 0
Skips c spec at (Ok end) = (v : Shown) × IsValueIn c spec at v end
Skips c spec at (Err f) = IsRefused c spec at f
