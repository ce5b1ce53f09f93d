use Rattle.dwarf_forms.proofs.Spelled.{spelled}
use Rattle.dwarf_forms.proofs.Standing.{stands}
use Rattle.dwarf_forms.proofs.law.values_are_read.Goals as goal

pub returns : goal.returns
returns c within offsets addresses spec at v end =
    (stands within spec at v end, λ h. spelled within spec at v end offsets addresses h.2 h.0)
