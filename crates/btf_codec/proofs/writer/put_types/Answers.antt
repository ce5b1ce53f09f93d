use Rattle.std.proofs.Common.{All, arith, subst, sym}
use Rattle.c_model.specs.declared.graph.CType.{CType}
use Rattle.c_model.specs.Kinds.{IsWellFormed}
use Rattle.btf_codec.proofs.KindTable.{kind_known, vlen_few}
use Rattle.btf_codec.proofs.Putting.{one_type}
use Rattle.btf_codec.proofs.writer.put_types.Goals as goal

pub loop-t-preserved : goal.loop-t-preserved
loop-t-preserved c = λ (formed : All IsWellFormed c.args.types.now).
    let w : IsWellFormed c.t-item.result = subst (λ (t : CType). IsWellFormed t) (sym c.t-item.is)
    (formed c.loop-t.t-index c.t-item.result c.loop-t-test.true) in
    one_type c.args.order c.args.strings.now c.args.types.now c.loop-t.t-index c.t-item.result
    c.args.out.now.items c.loop-t.out.items c.put_type.new.out.items
    c.loop-t-test.true c.t-item.is (c.loop-t.invariant formed) (c.in_ok-put_type.ensures
    (vlen_few c.t-item.result w) (omega (arith, kind_known c.t-item.result w)))
