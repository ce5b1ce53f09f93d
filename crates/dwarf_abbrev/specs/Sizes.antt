-- How many bytes the value of a form has, where that does not depend on the value (DWARF 5, section
-- 7.5.6, table 7.6, and the two forms of GNU).
use Rattle.std.specs.Prelude.{ℕ, ◌≡◌, ◌+◌, ◌*◌, ◌==◌, List, [], ◌∷◌, Option, None, Some}
use Rattle.std.specs.Map.{lookup}
use Rattle.std.specs.Option.{option_map}
use Rattle.dwarf_abbrev.specs.declared.constants.TheConstants.{DW_FORM_addr, DW_FORM_block2}
use Rattle.dwarf_abbrev.specs.declared.constants.TheConstants.{DW_FORM_block4, DW_FORM_data2}
use Rattle.dwarf_abbrev.specs.declared.constants.TheConstants.{DW_FORM_data4, DW_FORM_data8}
use Rattle.dwarf_abbrev.specs.declared.constants.TheConstants.{DW_FORM_string, DW_FORM_block}
use Rattle.dwarf_abbrev.specs.declared.constants.TheConstants.{DW_FORM_block1, DW_FORM_data1}
use Rattle.dwarf_abbrev.specs.declared.constants.TheConstants.{DW_FORM_flag, DW_FORM_sdata}
use Rattle.dwarf_abbrev.specs.declared.constants.TheConstants.{DW_FORM_strp, DW_FORM_udata}
use Rattle.dwarf_abbrev.specs.declared.constants.TheConstants.{DW_FORM_ref_addr, DW_FORM_ref1}
use Rattle.dwarf_abbrev.specs.declared.constants.TheConstants.{DW_FORM_ref2, DW_FORM_ref4}
use Rattle.dwarf_abbrev.specs.declared.constants.TheConstants.{DW_FORM_ref8, DW_FORM_ref_udata}
use Rattle.dwarf_abbrev.specs.declared.constants.TheConstants.{DW_FORM_sec_offset, DW_FORM_exprloc}
use Rattle.dwarf_abbrev.specs.declared.constants.TheConstants.{DW_FORM_flag_present, DW_FORM_strx}
use Rattle.dwarf_abbrev.specs.declared.constants.TheConstants.{DW_FORM_addrx, DW_FORM_ref_sup4}
use Rattle.dwarf_abbrev.specs.declared.constants.TheConstants.{DW_FORM_strp_sup, DW_FORM_data16}
use Rattle.dwarf_abbrev.specs.declared.constants.TheConstants.{DW_FORM_line_strp, DW_FORM_ref_sig8}
use Rattle.dwarf_abbrev.specs.declared.constants.TheConstants.{DW_FORM_implicit_const}
use Rattle.dwarf_abbrev.specs.declared.constants.TheConstants.{DW_FORM_loclistx, DW_FORM_rnglistx}
use Rattle.dwarf_abbrev.specs.declared.constants.TheConstants.{DW_FORM_ref_sup8, DW_FORM_strx1}
use Rattle.dwarf_abbrev.specs.declared.constants.TheConstants.{DW_FORM_strx2, DW_FORM_strx3}
use Rattle.dwarf_abbrev.specs.declared.constants.TheConstants.{DW_FORM_strx4, DW_FORM_addrx1}
use Rattle.dwarf_abbrev.specs.declared.constants.TheConstants.{DW_FORM_addrx2, DW_FORM_addrx3}
use Rattle.dwarf_abbrev.specs.declared.constants.TheConstants.{DW_FORM_addrx4, DW_FORM_GNU_ref_alt}
use Rattle.dwarf_abbrev.specs.declared.constants.TheConstants.{DW_FORM_GNU_strp_alt}
use Rattle.dwarf_abbrev.specs.declared.size.Width.{Width}
use Rattle.dwarf_abbrev.specs.declared.size.Width.TheVariants.{Bytes, Offset, Address}
use Rattle.dwarf_abbrev.specs.declared.runs.FixedRun.{FixedRun}
use Rattle.dwarf_abbrev.specs.declared.spec.Spec.{Spec}

-- one row a form; None where the bytes of the value tell how many there are
abbrev pub widths : List (ℕ × Option Width)
widths =
    (DW_FORM_addr, Some Address)
    ∷ (DW_FORM_block2, None)
    ∷ (DW_FORM_block4, None)
    ∷ (DW_FORM_data2, Some (Bytes 2))
    ∷ (DW_FORM_data4, Some (Bytes 4))
    ∷ (DW_FORM_data8, Some (Bytes 8))
    ∷ (DW_FORM_string, None)
    ∷ (DW_FORM_block, None)
    ∷ (DW_FORM_block1, None)
    ∷ (DW_FORM_data1, Some (Bytes 1))
    ∷ (DW_FORM_flag, Some (Bytes 1))
    ∷ (DW_FORM_sdata, None)
    ∷ (DW_FORM_strp, Some Offset)
    ∷ (DW_FORM_udata, None)
    ∷ (DW_FORM_ref_addr, Some Offset)
    ∷ (DW_FORM_ref1, Some (Bytes 1))
    ∷ (DW_FORM_ref2, Some (Bytes 2))
    ∷ (DW_FORM_ref4, Some (Bytes 4))
    ∷ (DW_FORM_ref8, Some (Bytes 8))
    ∷ (DW_FORM_ref_udata, None)
    ∷ (DW_FORM_sec_offset, Some Offset)
    ∷ (DW_FORM_exprloc, None)
    ∷ (DW_FORM_flag_present, Some (Bytes 0))
    ∷ (DW_FORM_strx, None)
    ∷ (DW_FORM_addrx, None)
    ∷ (DW_FORM_ref_sup4, Some (Bytes 4))
    ∷ (DW_FORM_strp_sup, Some Offset)
    ∷ (DW_FORM_data16, Some (Bytes 16))
    ∷ (DW_FORM_line_strp, Some Offset)
    ∷ (DW_FORM_ref_sig8, Some (Bytes 8))
    ∷ (DW_FORM_implicit_const, Some (Bytes 0))
    ∷ (DW_FORM_loclistx, None)
    ∷ (DW_FORM_rnglistx, None)
    ∷ (DW_FORM_ref_sup8, Some (Bytes 8))
    ∷ (DW_FORM_strx1, Some (Bytes 1))
    ∷ (DW_FORM_strx2, Some (Bytes 2))
    ∷ (DW_FORM_strx3, Some (Bytes 3))
    ∷ (DW_FORM_strx4, Some (Bytes 4))
    ∷ (DW_FORM_addrx1, Some (Bytes 1))
    ∷ (DW_FORM_addrx2, Some (Bytes 2))
    ∷ (DW_FORM_addrx3, Some (Bytes 3))
    ∷ (DW_FORM_addrx4, Some (Bytes 4))
    ∷ (DW_FORM_GNU_ref_alt, Some Offset)
    ∷ (DW_FORM_GNU_strp_alt, Some Offset)
    ∷ []

abbrev pub of_row : Option (Option Width) → Option Width
of_row None = None
of_row (Some w) = w

-- the width of a form; none of a form that the table does not have, as the indirect one
abbrev pub width_of : ℕ → Option Width
width_of form = of_row (lookup (λ (f : ℕ). form == f) widths)

-- in bytes, for offsets of o bytes and addresses of a bytes
abbrev pub width_in : ℕ → ℕ → Width → ℕ
width_in o a (Bytes n) = n
width_in o a Offset = o
width_in o a Address = a

abbrev pub bytes_of : ℕ → ℕ → ℕ → Option ℕ
bytes_of o a form = option_map (width_in o a) (width_of form)

abbrev pub plus : Option ℕ → Option ℕ → Option ℕ
plus (Some m) (Some n) = Some (m + n)
plus (Some m) None = None
plus None o = None

-- the bytes of the values of some pairs, where all are fixed
abbrev pub sizes_of : ℕ → ℕ → List Spec → Option ℕ
sizes_of o a [] = Some 0
sizes_of o a (s ∷ ss) = plus (bytes_of o a s.form) (sizes_of o a ss)

-- the bytes of so many bytes, offsets and addresses
abbrev pub total : ℕ → ℕ → FixedRun → ℕ
total o a r = r.bytes + r.offsets * o + r.addresses * a

-- the values of some pairs have just this size, whatever the widths of offsets and addresses are
abbrev pub IsSize : List Spec → FixedRun → Type 0
IsSize specs r = (o a : ℕ) → sizes_of o a specs ≡ Some (total o a r)
