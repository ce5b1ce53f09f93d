use Rattle.std.proofs.Common.{◌≡◌, ◌++◌, map, take}
use Rattle.c_model.specs.Partition.{targets_at}
use Rattle.packed_graph.specs.Packed.{word_of}
use Rattle.type_signature.proofs.links.push_words.Given as goal

abbrev pub invariant-loop-i : goal.invariant-loop-i
invariant-loop-i b l = l.words.items ≡ l.initial.words.items
    ++ map word_of (take l.i (targets_at (b.G.TypeGraph.shape l.graph).nodes l.x))
