use Rattle.std.proofs.Common.{◌+◌, ◌*◌, length, ℕ, List, refl, ap, ◌∙◌, sym}
use Rattle.c_model.specs.declared.label.Part.{Part}
use Rattle.btf_codec.specs.Fields.{layout_of}
use Rattle.split_base.specs.Building.{words_besides, words_each}
use Rattle.split_base.proofs.Words.{words_is}
use Rattle.split_base.proofs.lengths.words_of.Goals as goal

pub returns-clause-count : goal.returns-clause-count
returns-clause-count c =
    ap (λ (n : ℕ). n + c.words_each.result * length c.items.result.now) c.words_besides.ensures
    ∙ ap (λ (n : ℕ). words_besides (layout_of c.args.t.now.label.kind)
    + n * length c.items.result.now) c.words_each.ensures
    ∙ ap (λ (ps : List Part). words_besides (layout_of c.args.t.now.label.kind)
    + words_each (layout_of c.args.t.now.label.kind) * length ps) c.items.ensures
    ∙ sym (words_is c.args.t.now (layout_of c.args.t.now.label.kind) refl)
