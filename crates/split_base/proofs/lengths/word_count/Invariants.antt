use Rattle.std.proofs.Common.{◌≡◌, ◌≤◌, ◌*◌, ◌^◌, length, take}
use Rattle.std.specs.List.{flat_map}
use Rattle.btf_codec.specs.Fields.{fields_of}
use Rattle.split_base.proofs.lengths.word_count.Given as goal

abbrev pub invariant-loop-t : goal.invariant-loop-t
invariant-loop-t l = record {
  count : l.count ≡ length (flat_map fields_of (take l.t-index l.types));
  bound : l.count ≤ 2 ^ 18 * l.t-index;
}
