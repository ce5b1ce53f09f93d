-- What the rows of all tags share: labels, sizes, and a row itself.
use Rattle.std.specs.Prelude.{ℕ, ℤ, pos, negsuc, ◌^◌, nat_lt, Bool, true, false, not, List, [], ◌∷◌}
use Rattle.std.specs.Prelude.{Option, None, Some, if◌then◌else◌}
use Rattle.c_model.specs.declared.label.Label.{Label}
use Rattle.entry_tree.specs.Items.{Given}
use Rattle.type_attributes.specs.declared.source.SourceType.{SourceType}
use Rattle.type_attributes.specs.declared.source.Target.{Target}
use Rattle.type_attributes.specs.declared.fault.TypeFault.{TypeFault}
use Rattle.type_attributes.specs.declared.fault.TypeFault.TheVariants.{MissingSize, SizeLarge}
use Rattle.type_attributes.specs.Faults.{refuse_if}

-- the type that an entry is, which counts where nothing is refused, and the refusals
pub record Row : Type 0 where
  pub made : SourceType
  pub refused : List TypeFault

abbrev pub type_of : Given → Label → List Target → SourceType
type_of e label targets = record { at = e.at; label = label; targets = targets }

-- a label without flag, extra and parts
abbrev pub plain_label : ℕ → List ℕ → ℕ → Label
plain_label kind name size =
    record { kind = kind; name = name; flag = false; size = size; extra = 0; parts = [] }

abbrev pub is_empty : List ℕ → Bool
is_empty [] = true
is_empty (b ∷ bs) = false

-- a size is a number of 32 bits
abbrev pub fits_word : ℤ → Bool
fits_word (pos n) = nat_lt n (2 ^ 32)
fits_word (negsuc n) = false

abbrev pub word_of : ℤ → ℕ
word_of (pos n) = if nat_lt n (2 ^ 32) then n else 0
word_of (negsuc n) = 0

abbrev pub size_in : Option ℤ → ℕ
size_in None = 0
size_in (Some z) = word_of z

-- it is missing, or too large
abbrev pub size_refusals : ℕ → Option ℤ → List TypeFault
size_refusals at None = MissingSize at ∷ []
size_refusals at (Some z) = refuse_if (not (fits_word z)) (SizeLarge at z)
