use Rattle.std.proofs.Common.{◌≡◌, map, take}
use Rattle.std.specs.List.{fold}
use Rattle.c_model.specs.Partition.{classes_of}
use Rattle.packed_graph.specs.Packed.{ref_of}
use Rattle.type_signature.specs.Hashing.{mixed}
use Rattle.type_signature.proofs.hashing.hash_of.Given as goal

abbrev pub invariant-loop-word : goal.invariant-loop-word
invariant-loop-word l =
    l.hash ≡ fold mixed l.own (classes_of l.now (map ref_of (take l.word-index l.words)))
