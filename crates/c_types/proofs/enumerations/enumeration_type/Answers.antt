use Rattle.std.proofs.Common.{◌≡◌, ◌∙◌, true, false, refl, sym}
use Rattle.c_types.proofs.OpenEnumerations.{is_bare_now, made_closed}
use Rattle.c_types.proofs.enumerations.enumeration_type.Goals as goal

pub returns-then-is_bare : goal.returns-then-is_bare
returns-then-is_bare c = λ s.
    let b : is_bare_now c.args.whole.now ≡ true = sym c.is_bare.ensures ∙ c.if-is_bare.true in
    rw (
      made_closed s c.args.whole.now,
      b,
      c.bare_enumeration.ensures,
      c.again-name.ensures,
    ) refl

pub returns : goal.returns
returns c = λ s.
    let b : is_bare_now c.args.whole.now ≡ false = sym c.is_bare.ensures ∙ c.if-is_bare.false in
    rw (
      made_closed s c.args.whole.now,
      b,
      c.no_targets.ensures,
      c.make_label.ensures,
      c.again-name.ensures,
      c.in_ok-parts.ensures,
      c.deref.ensures.value,
    ) refl
