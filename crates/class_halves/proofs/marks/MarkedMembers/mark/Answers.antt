use Rattle.std.proofs.Common.{◌≤◌, ◌+◌, length, arith}
use Rattle.class_halves.proofs.Counting.{read-bool, mark-fits, mark-counted}
use Rattle.class_halves.proofs.marks.MarkedMembers.mark.Goals as goal

pub overflow_add-index_mut : goal.overflow_add-index_mut
overflow_add-index_mut c =
    let h : c.index_mut-then-not-index.result.now + 1 ≤ length c.args.self.now.classes =
    mark-fits c.args.self.now.classes c.args.self.now.marked.items c.args.self.now.hits.items
    c.args.self.now.counted c.args.x c.of-class.result c.index_mut-then-not-index.result.now
    c.requires c.of-class.ensures.class (rw c.of-class.ensures.class at
    c.of-class.ensures.known) c.index_mut-then-not-index.ensures.value
    (read-bool c.args.self.now.marked.items c.args.x _ _ (let l = c.args.self.now.counted.covers in
    let h = c.requires in omega arith) c.index.ensures c.if-not-index.true) in
    let few = c.of-class.ensures.few in
    search arith

pub invariant_of-self : goal.invariant_of-self
invariant_of-self c = record {
  counted = mark-counted c.args.self.now.classes c.args.self.now.marked.items c.args.self.now.hits.items
      c.args.self.now.counted c.args.x c.of-class.result c.index_mut-then-not-index.result.now
      c.requires c.of-class.ensures.class (rw c.of-class.ensures.class at
      c.of-class.ensures.known) c.index_mut-then-not-index.ensures.value
      (read-bool c.args.self.now.marked.items c.args.x _ _ (let l = c.args.self.now.counted.covers in
      let h = c.requires in omega arith) c.index.ensures c.if-not-index.true);
}
