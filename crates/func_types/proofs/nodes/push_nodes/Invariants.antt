use Rattle.std.proofs.Common.{◌≡◌, ◌++◌, take}
use Rattle.func_types.proofs.nodes.push_nodes.Given as goal

abbrev pub invariant-loop-node : goal.invariant-loop-node
invariant-loop-node l = l.nodes ≡ l.fn.nodes ++ take l.node-index l.more
