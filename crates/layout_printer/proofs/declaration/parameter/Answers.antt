use Rattle.std.proofs.Common.{◌∙◌, codes, refl}
use Rattle.std.proofs.lemmas.Result.{IfOk-weaker}
use Rattle.layout_printer.specs.Declarations.{ellipsis, parameter_decl}
use Rattle.layout_printer.proofs.Declaring.{followed, cut_off}
use Rattle.layout_printer.proofs.declaration.parameter.Goals as goal

pub loop-preserved : goal.loop-preserved
loop-preserved c =
    followed ellipsis c.args.types.now 64 c.loop.counter (codes "...") c.loop.at
    c.loop.draft.front.items c.loop.draft.name.items c.loop.draft.back.items
    c.follow.new.draft.front.items c.follow.new.draft.name.items c.follow.new.draft.back.items
    _ _ (parameter_decl c.args.types.now c.args.r c.args.name.now) c.loop-test.true refl
    c.loop.invariant c.in_ok-follow.ensures c.in-Some.is

pub returns-in-None : goal.returns-in-None
returns-in-None c =
    let whole =
    followed ellipsis c.args.types.now 64 c.loop.counter (codes "...") c.loop.at
    c.loop.draft.front.items c.loop.draft.name.items c.loop.draft.back.items
    c.follow.new.draft.front.items c.follow.new.draft.name.items c.follow.new.draft.back.items
    _ _ (parameter_decl c.args.types.now c.args.r c.args.name.now) c.loop-test.true refl
    c.loop.invariant c.in_ok-follow.ensures c.in-None.is in
    IfOk-weaker c.finish.result _ _ (λ w e. e ∙ whole) c.finish.ensures

pub returns : goal.returns
returns c =
    let whole = cut_off ellipsis c.args.types.now 64 c.loop.counter c.loop.at
    c.loop.draft.front.items c.loop.draft.name.items c.loop.draft.back.items
    c.extend_from_slice.new.self.items
    (parameter_decl c.args.types.now c.args.r c.args.name.now) c.loop-test.false
    c.loop.invariant c.in_ok-extend_from_slice.ensures.items in
    IfOk-weaker c.finish-2.result _ _ (λ w e. e ∙ whole) c.finish-2.ensures
