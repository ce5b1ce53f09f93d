use Rattle.std.proofs.Common.{◌≡◌, ◌∙◌, sym, length, rules}
use Rattle.c_types.specs.Opened.{own}
use Rattle.c_types.proofs.OpenStructures.{refused_closed, own_packed, own_plain}
use Rattle.c_types.proofs.structures.structure_fault.Goals as goal
use Rattle.c_types.proofs.structures.structure_fault.Goals.{then-whole, else-whole}

pub returns : goal.returns
returns c = λ s.
    let whole = c.args.whole.now in
    let o : c.if-whole.fault ≡ own whole whole.fields = elim c.if-whole.branch [
      | then-whole w ↦ w.fault-is ∙ sym (own_packed whole w.if-whole.true)
      | else-whole w ↦ w.fault-is ∙ sym (own_plain whole w.if-whole.false)
    ] in
    let n : c.len-count.result ≡ length whole.members.items = search rules in
    rw (refused_closed s c.args.whole.now, ← o, ← n) c.note_if.ensures
