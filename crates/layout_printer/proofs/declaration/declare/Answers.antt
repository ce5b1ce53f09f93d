use Rattle.std.proofs.Common.{◌∙◌}
use Rattle.std.proofs.lemmas.Result.{IfOk-weaker}
use Rattle.layout_printer.specs.Declarations.{decl, list_at}
use Rattle.layout_printer.proofs.Declaring.{followed, cut_off}
use Rattle.layout_printer.proofs.declaration.declare.Goals as goal

pub loop-preserved : goal.loop-preserved
loop-preserved c =
    followed (list_at c.args.types.now) c.args.types.now 64 c.loop.counter c.deref.result.now
    c.loop.at c.loop.draft.front.items c.loop.draft.name.items c.loop.draft.back.items
    c.follow.new.draft.front.items c.follow.new.draft.name.items c.follow.new.draft.back.items
    _ _ (decl c.args.types.now c.args.r c.args.name.now) c.loop-test.true
    (c.deref.ensures.value ∙ c.in_ok-list.ensures) c.loop.invariant c.in_ok-follow.ensures
    c.in-Some.is

pub returns-in-None : goal.returns-in-None
returns-in-None c =
    let whole =
    followed (list_at c.args.types.now) c.args.types.now 64 c.loop.counter c.deref.result.now
    c.loop.at c.loop.draft.front.items c.loop.draft.name.items c.loop.draft.back.items
    c.follow.new.draft.front.items c.follow.new.draft.name.items c.follow.new.draft.back.items
    _ _ (decl c.args.types.now c.args.r c.args.name.now) c.loop-test.true
    (c.deref.ensures.value ∙ c.in_ok-list.ensures) c.loop.invariant c.in_ok-follow.ensures
    c.in-None.is in
    IfOk-weaker c.finish.result _ _ (λ w e. e ∙ whole) c.finish.ensures

pub returns : goal.returns
returns c =
    let whole = cut_off (list_at c.args.types.now) c.args.types.now 64 c.loop.counter c.loop.at
    c.loop.draft.front.items c.loop.draft.name.items c.loop.draft.back.items
    c.extend_from_slice.new.self.items (decl c.args.types.now c.args.r c.args.name.now)
    c.loop-test.false c.loop.invariant c.in_ok-extend_from_slice.ensures.items in
    IfOk-weaker c.finish-2.result _ _ (λ w e. e ∙ whole) c.finish-2.ensures
