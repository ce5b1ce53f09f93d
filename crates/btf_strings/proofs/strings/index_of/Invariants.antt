use Rattle.std.proofs.Common.{◌-◌, length}
use Rattle.btf_strings.proofs.Index.{IsIndexed}
use Rattle.btf_strings.proofs.strings.index_of.Given as goal

abbrev pub invariant-loop-name : goal.invariant-loop-name
invariant-loop-name l = IsIndexed l.section l.base_offsets.entries l.at

abbrev pub decreases-loop-name : goal.decreases-loop-name
decreases-loop-name l = length l.section - l.at
