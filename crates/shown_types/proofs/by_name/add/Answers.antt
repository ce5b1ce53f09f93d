use Rattle.std.proofs.Common.{◌≡◌, ◌∙◌, sym, ap, true, false, is_some, Option, ℕ}
use Rattle.shown_types.specs.Listed.{is_listed}
use Rattle.shown_types.proofs.Naming.{named_more, named_skip}
use Rattle.shown_types.proofs.by_name.add.Goals as goal

pub returns-in_ok-later : goal.returns-in_ok-later
returns-in_ok-later c =
    let listed : is_listed c.args.types.now c.args.x ≡ true =
    sym (c.is_some.ensures ∙ ap (λ (o : Option ℕ). is_some o) c.structure_at.ensures)
    ∙ c.if-is_some.true in
    named_more c.args.types.now c.args.x c.args.first.now.entries c.insert.new.self.entries
    c.args.next.now.items c.in_ok-later.later c.name_of-name.result
    c.requires.place listed c.name_of-name.ensures c.in_ok-later.ensures.old
    c.in_ok-later.ensures.updates.0 c.requires.behind

pub returns-else-is_some : goal.returns-else-is_some
returns-else-is_some c =
    let hidden : is_listed c.args.types.now c.args.x ≡ false =
    sym (c.is_some.ensures ∙ ap (λ (o : Option ℕ). is_some o) c.structure_at.ensures)
    ∙ c.if-is_some.false in
    named_skip c.args.types.now c.args.x c.args.first.now.entries c.args.next.now.items
    c.requires.place hidden c.requires.behind
