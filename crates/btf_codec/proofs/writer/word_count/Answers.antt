use Rattle.std.proofs.Common.{◌≡◌, ◌+◌, length, take, ap, sym, ◌∙◌, arith}
use Rattle.std.specs.List.{flat_map}
use Rattle.c_model.specs.declared.graph.CType.{CType}
use Rattle.btf_codec.specs.Fields.{fields_of}
use Rattle.btf_codec.proofs.Counting.{length_more, length_front}
use Rattle.btf_codec.proofs.writer.word_count.Goals as goal

more : (c : goal.After-t-item)
    → length (flat_map fields_of (take (c.loop-t.t-index + 1) c.args.types.now)) ≡ length (flat_map
    fields_of (take c.loop-t.t-index c.args.types.now)) + length (fields_of c.t-item.result)
more c =
    length_more c.args.types.now c.loop-t.t-index c.t-item.result c.loop-t-test.true
    ∙ ap (λ (t : CType). length (flat_map fields_of (take c.loop-t.t-index c.args.types.now))
    + length (fields_of t)) (sym c.t-item.is)

pub words_of-count-requires : goal.words_of-count-requires
words_of-count-requires c =
    omega (arith, more c, length_front c.args.types.now (c.loop-t.t-index + 1))

pub overflow_add-count : goal.overflow_add-count
overflow_add-count c =
    let m =
    length_more c.args.types.now c.loop-t.t-index c.t-item.result c.loop-t-test.true
    ∙ ap (λ (t : CType). length (flat_map fields_of (take c.loop-t.t-index c.args.types.now))
    + length (fields_of t)) (sym c.t-item.is) in
    omega (
      arith,
      m,
      length_front c.args.types.now (c.loop-t.t-index + 1),
      c.loop-t.invariant,
      c.words_of-count.ensures,
    )

pub loop-t-preserved : goal.loop-t-preserved
loop-t-preserved c =
    let m =
    length_more c.args.types.now c.loop-t.t-index c.t-item.result c.loop-t-test.true
    ∙ ap (λ (t : CType). length (flat_map fields_of (take c.loop-t.t-index c.args.types.now))
    + length (fields_of t)) (sym c.t-item.is) in
    omega (arith, m, c.loop-t.invariant, c.words_of-count.ensures)
