use Rattle.std.proofs.Common.{take}
use Rattle.c_model.specs.Graph.{RefersWithin}
use Rattle.small_graphs.proofs.fitting.refer_below.Given as goal

abbrev pub invariant-loop-node : goal.invariant-loop-node
invariant-loop-node l = RefersWithin l.limit (take l.node-index l.nodes)
