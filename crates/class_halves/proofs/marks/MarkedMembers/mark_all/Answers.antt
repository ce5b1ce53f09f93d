use Rattle.std.proofs.Common.{◌∙◌, ap, length, arith}
use Rattle.class_halves.proofs.Moving.{AreMarked-more}
use Rattle.class_halves.proofs.marks.MarkedMembers.mark_all.Goals as goal

pub loop-x-preserved : goal.loop-x-preserved
loop-x-preserved c =
    let s = c.loop-x.self.counted in
    let n = ap length c.loop-x.invariant.classes in
    record {
      marked = AreMarked-more c.loop-x.self.marked.items _ c.args.nodes.now c.loop-x.x-index
          c.loop-x-test.true (let h = c.requires.nodes c.loop-x.x-index 0 c.loop-x-test.true in
          let l = s.covers in omega arith) c.mark.ensures.marked c.loop-x.invariant.marked;
      classes = c.mark.ensures.classes ∙ c.loop-x.invariant.classes;
    }
