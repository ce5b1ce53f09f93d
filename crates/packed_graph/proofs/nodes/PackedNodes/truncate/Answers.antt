use Rattle.std.proofs.Common.{◌≡◌, ◌+◌, length, arith}
use Rattle.packed_graph.specs.Packed.{nodes_of}
use Rattle.packed_graph.proofs.Inside.{columns}
use Rattle.packed_graph.proofs.Reading.{node-within}
use Rattle.packed_graph.proofs.Truncating.{IsPacked-by, nodes_of-by}
use Rattle.packed_graph.proofs.nodes.PackedNodes.truncate.Goals as goal

pub truncate-requires-then-count-len : goal.truncate-requires-then-count-len
truncate-requires-then-count-len c =
    let s = columns c.self.inside in
    let size : c.len.result ≡ length (nodes_of s) = rw (← c.self.view_is) at c.len.ensures in
    let h = node-within s c.args.count (omega (arith, size, c.if-count-len.true)) in
    let ends : length s.ends ≡ length s.numbers + 1 = c.self.invariant.ends in
    omega (arith, h, ends)

pub invariant_of-self : goal.invariant_of-self
invariant_of-self c =
    let s = columns c.self.inside in
    let size : c.len.result ≡ length (nodes_of s) = rw (← c.self.view_is) at c.len.ensures in
    let h = node-within s c.args.count (omega (arith, size, c.if-count-len.true)) in
    IsPacked-by s.labels c.self.inside.rows c.self.invariant c.args.count h _
    c.truncate.ensures.keys _ c.truncate-then-count-len.ensures

pub returns-then-count-len : goal.returns-then-count-len
returns-then-count-len c =
    let s = columns c.self.inside in
    let size : c.len.result ≡ length (nodes_of s) = rw (← c.self.view_is) at c.len.ensures in
    let h = node-within s c.args.count (omega (arith, size, c.if-count-len.true)) in
    rw (← c.self.view_is) (nodes_of-by s.labels c.self.inside.rows c.self.invariant c.args.count h
    _ c.truncate.ensures.keys _ c.truncate-then-count-len.ensures)
