use Rattle.std.proofs.Common.{◌≡◌, ◌∙◌, ap, map, List, refl}
use Rattle.c_types.specs.declared.open.Member.{Member}
use Rattle.c_types.specs.Opened.{part_from}
use Rattle.c_types.proofs.OpenStructures.{made_closed}
use Rattle.c_types.proofs.structures.structure_type.Goals as goal

pub returns : goal.returns
returns c = λ s.
    let o = c.args.whole.now in
    let p : c.new.result ≡ map (part_from o.fields) o.members.items =
    c.new.ensures ∙ c.in_ok-parts.ensures
    ∙ ap (λ (l : List Member). map (part_from o.fields) l) c.deref.ensures.value in
    rw (
      made_closed s c.args.whole.now,
      c.kind_of.ensures,
      c.again.ensures,
      p,
      c.new-2.ensures,
      c.in_ok-targets.ensures.items,
      c.deref-2.ensures.value,
    ) refl
