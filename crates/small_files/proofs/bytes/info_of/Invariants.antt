use Rattle.std.proofs.Common.{◌≡◌, take}
use Rattle.std.specs.List.{flat_map}
use Rattle.small_files.specs.Bytes.{unit_bytes}
use Rattle.dw_base.specs.declared.numbers.Order.TheVariants.{Little}
use Rattle.small_files.proofs.bytes.info_of.Given as goal

-- so many units are there
abbrev pub invariant-loop-entries : goal.invariant-loop-entries
invariant-loop-entries l = l.bytes.items
    ≡ flat_map (λ u. unit_bytes Little 5 0 u.now) (take l.entries-index l.units)
