use Rattle.std.proofs.Common.{◌∷◌, ◌++◌, ℕ, List, ap, sym, ◌∙◌}
use Rattle.layout_printer.proofs.Declaring.{tag_more}
use Rattle.layout_printer.proofs.declaration.qualify.Goals as goal

pub returns-in_ok-draft-2 : goal.returns-in_ok-draft-2
returns-in_ok-draft-2 c rest =
    tag_more c.args.is_tag rest c.args.types.now c.args.word.now c.args.target
    c.args.draft.now.front.items c.args.draft.now.name.items c.args.draft.now.back.items
    c.in_ok-draft-2.field-0.items
    (sym c.leads_to_pointer.ensures ∙ c.if-leads_to_pointer.false) c.if-is_tag.true
    (c.in_ok-draft-2.ensures ∙ ap (λ (b : List ℕ). (32 ∷ c.args.word.now) ++ b)
    c.deref-then-is_tag.ensures.value)
