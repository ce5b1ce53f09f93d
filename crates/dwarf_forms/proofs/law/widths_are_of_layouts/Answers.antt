use Rattle.dwarf_forms.proofs.Fixed.{widths_agree}
use Rattle.dwarf_forms.proofs.law.widths_are_of_layouts.Goals as goal

pub returns : goal.returns
returns c = widths_agree
