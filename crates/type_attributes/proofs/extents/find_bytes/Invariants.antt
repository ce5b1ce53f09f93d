use Rattle.std.proofs.Common.{◌≡◌, ◌-◌}
use Rattle.type_attributes.specs.Extents.{bytes_after, most_followed}
use Rattle.type_attributes.specs.Rows.{extent_in}
use Rattle.type_attributes.proofs.extents.find_bytes.Given as goal

abbrev pub invariant-loop-i : goal.invariant-loop-i
invariant-loop-i l = bytes_after (extent_in l.rows) (most_followed - l.i) l.found
    ≡ bytes_after (extent_in l.rows) most_followed (extent_in l.rows l.to)
