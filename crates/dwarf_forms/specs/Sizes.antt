-- How many bytes the value of a form has, by its layout.
use Rattle.std.specs.Prelude.{ℕ, ◌≡◌, Option, None, Some}
use Rattle.dwarf_abbrev.specs.Sizes.{bytes_of}
use Rattle.dwarf_forms.specs.declared.layout.FormLayout.{FormLayout}
use Rattle.dwarf_forms.specs.declared.layout.FormLayout.TheVariants.{Fixed, Implicit, Flag, Present}
use Rattle.dwarf_forms.specs.declared.layout.FormLayout.TheVariants.{Sixteen, Elsewhere}
use Rattle.dwarf_forms.specs.Forms.{layout_of}

-- None where the bytes of the value tell how many there are
abbrev pub size_of_layout : FormLayout → Option ℕ
size_of_layout (Fixed w kind) = Some w
size_of_layout Implicit = Some 0
size_of_layout Flag = Some 1
size_of_layout Present = Some 0
size_of_layout Sixteen = Some 16
size_of_layout (Elsewhere w) = Some w
size_of_layout other = None

abbrev pub size_in : Option FormLayout → Option ℕ
size_in None = None
size_in (Some l) = size_of_layout l

-- the widths by which abbreviations are measured are those of the layouts by which values are read
abbrev pub WidthsAreOfLayouts : Type 0
WidthsAreOfLayouts = (o a form : ℕ) → bytes_of o a form ≡ size_in (layout_of o a form)
