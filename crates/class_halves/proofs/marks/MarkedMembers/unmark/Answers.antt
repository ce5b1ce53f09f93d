use Rattle.std.proofs.Common.{arith}
use Rattle.class_halves.proofs.Counting.{read-bool, unmark-hit, unmark-counted}
use Rattle.class_halves.proofs.marks.MarkedMembers.unmark.Goals as goal

pub overflow_sub-index_mut : goal.overflow_sub-index_mut
overflow_sub-index_mut c = unmark-hit c.args.self.now.classes c.args.self.now.marked.items
    c.args.self.now.hits.items c.args.self.now.counted c.args.x c.of-class.result
    c.index_mut-then-index.result.now c.requires c.of-class.ensures.class
    (rw c.of-class.ensures.class at c.of-class.ensures.known) c.index_mut-then-index.ensures.value
    (read-bool c.args.self.now.marked.items c.args.x _ _ (let l = c.args.self.now.counted.covers in
    let h = c.requires in omega arith) c.index.ensures c.if-index.true)

pub invariant_of-self : goal.invariant_of-self
invariant_of-self c = record {
  counted = unmark-counted c.args.self.now.classes c.args.self.now.marked.items
      c.args.self.now.hits.items c.args.self.now.counted c.args.x c.of-class.result
      c.index_mut-then-index.result.now c.requires c.of-class.ensures.class
      (rw c.of-class.ensures.class at c.of-class.ensures.known) c.index_mut-then-index.ensures.value
      (read-bool c.args.self.now.marked.items c.args.x _ _ (let l = c.args.self.now.counted.covers in
      let h = c.requires in omega arith) c.index.ensures c.if-index.true);
}
