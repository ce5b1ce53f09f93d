use Rattle.std.proofs.Common.{◌≡◌, ◌∙◌, true, false, length, rules, refl, sym}
use Rattle.c_types.specs.Opened.{own_sign}
use Rattle.c_types.proofs.OpenEnumerations.{is_bare_now, refused_closed, own_signed, own_unsigned}
use Rattle.c_types.proofs.enumerations.enumeration_fault.Goals as goal
use Rattle.c_types.proofs.enumerations.enumeration_fault.Goals.{then-whole, else-whole}

pub returns-then-is_bare : goal.returns-then-is_bare
returns-then-is_bare c = λ s.
    let b : is_bare_now c.args.whole.now ≡ true = sym c.is_bare.ensures ∙ c.if-is_bare.true in
    rw (refused_closed s c.args.whole.now, b) refl

pub returns : goal.returns
returns c = λ s.
    let whole = c.args.whole.now in
    let b : is_bare_now whole ≡ false = sym c.is_bare.ensures ∙ c.if-is_bare.false in
    let o : c.if-whole.fault ≡ own_sign whole whole.has_negative =
    elim c.if-whole.branch [
      | then-whole w ↦ w.fault-is ∙ sym (own_signed whole w.if-whole.true)
      | else-whole w ↦ w.fault-is ∙ sym (own_unsigned whole w.if-whole.false)
    ] in
    let n : c.len-count.result ≡ length whole.parts.items = search rules in
    rw (refused_closed s c.args.whole.now, b, ← o, ← n) c.note_if.ensures
