use Rattle.std.proofs.Common.{take}
use Rattle.std.specs.Option.{option_copied}
use Rattle.split_base.specs.Building.{ArePut}
use Rattle.split_base.specs.Refusals.{no_strings, names_in}
use Rattle.split_base.proofs.names.put_names.Given as goal

abbrev pub invariant-loop-t : goal.invariant-loop-t
invariant-loop-t l =
    ArePut (no_strings (option_copied l.fn.base)) (names_in (take l.t-index l.types)) l.strings
