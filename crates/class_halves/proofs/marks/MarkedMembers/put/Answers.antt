use Rattle.std.proofs.Common.{◌≤◌, ◌+◌, length, refl, arith}
use Rattle.class_halves.proofs.Counting.{unmark-hit, put-counted, put-fits}
use Rattle.class_halves.proofs.marks.MarkedMembers.put.Goals as goal

pub overflow_sub-index_mut : goal.overflow_sub-index_mut
overflow_sub-index_mut g c = unmark-hit c.args.self.now.classes c.args.self.now.marked.items
    c.args.self.now.hits.items c.args.self.now.counted c.args.x c.of-from.result c.index_mut.result.now
    c.requires.node c.of-from.ensures.class (rw c.of-from.ensures.class at c.of-from.ensures.known)
    c.index_mut.ensures.value c.requires.marked

pub overflow_add-index_mut : goal.overflow_add-index_mut
overflow_add-index_mut g c =
    let few = c.of-from.ensures.few in
    let le : c.index_mut-2.result.now + 1 ≤ length c.args.self.now.classes =
    put-fits c.args.self.now.classes c.args.self.now.marked.items c.args.self.now.hits.items
    c.args.self.now.counted c.args.x c.of-from.result c.index_mut.result.now c.requires.node
    c.of-from.ensures.class (rw c.of-from.ensures.class at c.of-from.ensures.known)
    c.index_mut.ensures.value c.args.class c.index_mut-2.result.now _ c.requires.class
    c.requires.marked refl c.index_mut-2.ensures.value in
    search arith

pub invariant_of-self : goal.invariant_of-self
invariant_of-self g c = record {
  counted = rw c.put.ensures.classes (put-counted c.args.self.now.classes
      c.args.self.now.marked.items c.args.self.now.hits.items c.args.self.now.counted c.args.x
      c.of-from.result c.index_mut.result.now c.requires.node c.of-from.ensures.class
      (rw c.of-from.ensures.class at c.of-from.ensures.known) c.index_mut.ensures.value c.args.class
      c.index_mut-2.result.now _ c.requires.class c.requires.marked refl c.index_mut-2.ensures.value);
}
