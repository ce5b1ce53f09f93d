use Rattle.std.proofs.Common.{◌+◌, length, take, ap, sym, subst, ◌∙◌, arith}
use Rattle.std.specs.List.{flat_map}
use Rattle.c_model.specs.declared.graph.CType.{CType}
use Rattle.c_model.specs.Kinds.{IsWellFormed}
use Rattle.btf_codec.specs.Fields.{fields_of}
use Rattle.btf_codec.proofs.Counting.{length_more}
use Rattle.split_base.proofs.lengths.word_count.Goals as goal

pub words_of-count-requires : goal.words_of-count-requires
words_of-count-requires c =
    let w : IsWellFormed c.t-item.result = subst IsWellFormed (sym c.t-item.is)
    (c.requires.formed c.loop-t.t-index c.t-item.result c.loop-t-test.true) in
    w.few

pub loop-t-preserved : goal.loop-t-preserved
loop-t-preserved c =
    let m =
    length_more c.args.types.now c.loop-t.t-index c.t-item.result c.loop-t-test.true
    ∙ ap (λ (t : CType). length (flat_map fields_of (take c.loop-t.t-index c.args.types.now))
    + length (fields_of t)) (sym c.t-item.is) in
    record {
      count = omega (arith, m, c.loop-t.invariant.count, c.words_of-count.ensures.count);
      bound = omega (arith, c.loop-t.invariant.bound, c.words_of-count.ensures.bound);
    }
