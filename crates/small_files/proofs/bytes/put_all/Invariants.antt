use Rattle.std.proofs.Common.{◌≡◌, ◌++◌, take}
use Rattle.small_files.specs.Bytes.{all_bytes}
use Rattle.small_files.proofs.bytes.put_all.Given as goal

-- so many numbers stand behind what there was
abbrev pub invariant-loop-number : goal.invariant-loop-number
invariant-loop-number l = l.bytes.items
    ≡ l.initial.bytes.items ++ all_bytes l.order (take l.number-index l.numbers)
