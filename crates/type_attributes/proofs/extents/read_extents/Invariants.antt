use Rattle.std.proofs.Common.{◌≡◌, ◌++◌, length}
use Rattle.dwarf_forms.specs.Meanings.{sections}
use Rattle.type_attributes.specs.Rows.{rows_of}
use Rattle.type_attributes.proofs.extents.read_extents.Given as goal

abbrev pub invariant-entries : goal.invariant-entries
invariant-entries l = l.rows.items ++ rows_of (sections l.form) l.walk.entries
    ≡ rows_of (sections l.form) l.initial.walk.entries

abbrev pub decreases-entries : goal.decreases-entries
decreases-entries l = length l.walk.entries
