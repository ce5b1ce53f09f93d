use Rattle.std.proofs.Common.{◌≡◌, ℕ, ◌++◌, Some, IfOk, sym, ap, subst, ◌∙◌, Option}
use Rattle.btf_codec.specs.Fields.{layout_of}
use Rattle.btf_codec.specs.Reading.{kind_in, layout_in, type_by, decoded_type, word_in}
use Rattle.btf_codec.specs.declared.layout.KindLayout.{KindLayout}
use Rattle.c_model.specs.declared.graph.CType.{CType}
use Rattle.btf_codec.proofs.decoded.decoded_type.Goals as goal

pub returns : goal.returns
unfolding decoded_type
returns c =
    let e : Some c.in-Some.layout ≡ layout_in (word_in c.args.order c.args.piece.now) =
    sym c.in-Some.is ∙ c.layout_of.ensures ∙ ap (λ (k : ℕ). layout_of k)
    (c.kind_in.ensures ∙ ap (λ (y : ℕ). kind_in y) c.word_in.ensures) in
    subst (λ (o : Option KindLayout). IfOk c.type_by.result (λ (t : CType). t ≡ type_by o
    (c.args.texts.base.now ++ c.args.texts.own.now) (word_in c.args.order c.args.piece.now))) e
    c.type_by.ensures
