-- The table of forms (DWARF 5, section 7.5.6, table 7.6, and the two forms of GNU): one row a form.
use Rattle.std.specs.Prelude.{ℕ, ◌==◌, ◌≤◌, ⊤, List, [], ◌∷◌, Option}
use Rattle.std.specs.Map.{lookup}
use Rattle.dwarf_abbrev.specs.declared.constants.TheConstants.{DW_FORM_addr, DW_FORM_block2}
use Rattle.dwarf_abbrev.specs.declared.constants.TheConstants.{DW_FORM_block4, DW_FORM_data2}
use Rattle.dwarf_abbrev.specs.declared.constants.TheConstants.{DW_FORM_data4, DW_FORM_data8}
use Rattle.dwarf_abbrev.specs.declared.constants.TheConstants.{DW_FORM_string, DW_FORM_block}
use Rattle.dwarf_abbrev.specs.declared.constants.TheConstants.{DW_FORM_block1, DW_FORM_data1}
use Rattle.dwarf_abbrev.specs.declared.constants.TheConstants.{DW_FORM_flag, DW_FORM_sdata}
use Rattle.dwarf_abbrev.specs.declared.constants.TheConstants.{DW_FORM_strp, DW_FORM_udata}
use Rattle.dwarf_abbrev.specs.declared.constants.TheConstants.{DW_FORM_ref_addr, DW_FORM_ref1}
use Rattle.dwarf_abbrev.specs.declared.constants.TheConstants.{DW_FORM_ref2, DW_FORM_ref4}
use Rattle.dwarf_abbrev.specs.declared.constants.TheConstants.{DW_FORM_ref8, DW_FORM_ref_udata}
use Rattle.dwarf_abbrev.specs.declared.constants.TheConstants.{DW_FORM_sec_offset, DW_FORM_exprloc}
use Rattle.dwarf_abbrev.specs.declared.constants.TheConstants.{DW_FORM_flag_present, DW_FORM_strx}
use Rattle.dwarf_abbrev.specs.declared.constants.TheConstants.{DW_FORM_addrx, DW_FORM_ref_sup4}
use Rattle.dwarf_abbrev.specs.declared.constants.TheConstants.{DW_FORM_strp_sup, DW_FORM_data16}
use Rattle.dwarf_abbrev.specs.declared.constants.TheConstants.{DW_FORM_line_strp, DW_FORM_ref_sig8}
use Rattle.dwarf_abbrev.specs.declared.constants.TheConstants.{DW_FORM_implicit_const}
use Rattle.dwarf_abbrev.specs.declared.constants.TheConstants.{DW_FORM_loclistx, DW_FORM_rnglistx}
use Rattle.dwarf_abbrev.specs.declared.constants.TheConstants.{DW_FORM_ref_sup8, DW_FORM_strx1}
use Rattle.dwarf_abbrev.specs.declared.constants.TheConstants.{DW_FORM_strx2, DW_FORM_strx3}
use Rattle.dwarf_abbrev.specs.declared.constants.TheConstants.{DW_FORM_strx4, DW_FORM_addrx1}
use Rattle.dwarf_abbrev.specs.declared.constants.TheConstants.{DW_FORM_addrx2, DW_FORM_addrx3}
use Rattle.dwarf_abbrev.specs.declared.constants.TheConstants.{DW_FORM_addrx4, DW_FORM_GNU_ref_alt}
use Rattle.dwarf_abbrev.specs.declared.constants.TheConstants.{DW_FORM_GNU_strp_alt}
use Rattle.dwarf_forms.specs.declared.layout.FormLayout.{FormLayout}
use Rattle.dwarf_forms.specs.declared.layout.FormLayout.TheVariants.{Fixed, Leb, Signed, Implicit}
use Rattle.dwarf_forms.specs.declared.layout.FormLayout.TheVariants.{Flag}
use Rattle.dwarf_forms.specs.declared.layout.FormLayout.TheVariants.{Present, Text, Sixteen}
use Rattle.dwarf_forms.specs.declared.layout.FormLayout.TheVariants.{Counted}
use Rattle.dwarf_forms.specs.declared.layout.FormLayout.TheVariants.{LebCounted, Elsewhere}
use Rattle.dwarf_forms.specs.declared.layout.NumberClass.TheVariants.{Address, Unsigned, Strp}
use Rattle.dwarf_forms.specs.declared.layout.NumberClass.TheVariants.{LineStrp}
use Rattle.dwarf_forms.specs.declared.layout.NumberClass.TheVariants.{Strx, Index, UnitRef, InfoRef}
use Rattle.dwarf_forms.specs.declared.layout.NumberClass.TheVariants.{SecOffset}
use Rattle.dwarf_forms.specs.declared.layout.BlockClass.TheVariants.{Block, Expr}

-- for offsets of o bytes and addresses of a bytes
abbrev pub rows : ℕ → ℕ → List (ℕ × FormLayout)
rows o a =
    (DW_FORM_addr, Fixed a Address)
    ∷ (DW_FORM_block2, Counted 2 Block)
    ∷ (DW_FORM_block4, Counted 4 Block)
    ∷ (DW_FORM_data2, Fixed 2 Unsigned)
    ∷ (DW_FORM_data4, Fixed 4 Unsigned)
    ∷ (DW_FORM_data8, Fixed 8 Unsigned)
    ∷ (DW_FORM_string, Text)
    ∷ (DW_FORM_block, LebCounted Block)
    ∷ (DW_FORM_block1, Counted 1 Block)
    ∷ (DW_FORM_data1, Fixed 1 Unsigned)
    ∷ (DW_FORM_flag, Flag)
    ∷ (DW_FORM_sdata, Signed)
    ∷ (DW_FORM_strp, Fixed o Strp)
    ∷ (DW_FORM_udata, Leb Unsigned)
    ∷ (DW_FORM_ref_addr, Fixed o InfoRef)
    ∷ (DW_FORM_ref1, Fixed 1 UnitRef)
    ∷ (DW_FORM_ref2, Fixed 2 UnitRef)
    ∷ (DW_FORM_ref4, Fixed 4 UnitRef)
    ∷ (DW_FORM_ref8, Fixed 8 UnitRef)
    ∷ (DW_FORM_ref_udata, Leb UnitRef)
    ∷ (DW_FORM_sec_offset, Fixed o SecOffset)
    ∷ (DW_FORM_exprloc, LebCounted Expr)
    ∷ (DW_FORM_flag_present, Present)
    ∷ (DW_FORM_strx, Leb Strx)
    ∷ (DW_FORM_addrx, Leb Index)
    ∷ (DW_FORM_ref_sup4, Elsewhere 4)
    ∷ (DW_FORM_strp_sup, Elsewhere o)
    ∷ (DW_FORM_data16, Sixteen)
    ∷ (DW_FORM_line_strp, Fixed o LineStrp)
    ∷ (DW_FORM_ref_sig8, Elsewhere 8)
    ∷ (DW_FORM_implicit_const, Implicit)
    ∷ (DW_FORM_loclistx, Leb Index)
    ∷ (DW_FORM_rnglistx, Leb Index)
    ∷ (DW_FORM_ref_sup8, Elsewhere 8)
    ∷ (DW_FORM_strx1, Fixed 1 Strx)
    ∷ (DW_FORM_strx2, Fixed 2 Strx)
    ∷ (DW_FORM_strx3, Fixed 3 Strx)
    ∷ (DW_FORM_strx4, Fixed 4 Strx)
    ∷ (DW_FORM_addrx1, Fixed 1 Index)
    ∷ (DW_FORM_addrx2, Fixed 2 Index)
    ∷ (DW_FORM_addrx3, Fixed 3 Index)
    ∷ (DW_FORM_addrx4, Fixed 4 Index)
    ∷ (DW_FORM_GNU_ref_alt, Elsewhere o)
    ∷ (DW_FORM_GNU_strp_alt, Elsewhere o)
    ∷ []

abbrev pub layout_of : ℕ → ℕ → ℕ → Option FormLayout
layout_of o a form = lookup (λ (f : ℕ). form == f) (rows o a)

abbrev pub HasWidth : ℕ → Type 0
HasWidth w = (1 ≤ w) × (w ≤ 8)

-- the widths of a layout are those of numbers
abbrev pub HasWidths : FormLayout → Type 0
HasWidths (Fixed w k) = HasWidth w
HasWidths (Counted w k) = HasWidth w
HasWidths (Elsewhere w) = HasWidth w
HasWidths other = ⊤
