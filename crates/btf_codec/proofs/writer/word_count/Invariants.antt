use Rattle.std.proofs.Common.{◌≡◌, length, take}
use Rattle.std.specs.List.{flat_map}
use Rattle.btf_codec.specs.Fields.{fields_of}
use Rattle.btf_codec.proofs.writer.word_count.Given as goal

abbrev pub invariant-loop-t : goal.invariant-loop-t
invariant-loop-t l = l.count ≡ length (flat_map fields_of (take l.t-index l.types))
