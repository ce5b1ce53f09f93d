use Rattle.btf_codec.specs.Fields.{target_at}
use Rattle.btf_codec.proofs.Putting.{one_part, all_parts}
use Rattle.btf_codec.proofs.writer.put_parts.Goals as goal

pub loop-i-preserved : goal.loop-i-preserved
loop-i-preserved c =
    one_part c.args.order c.args.strings.now c.args.layout c.args.parts.now c.args.targets.now
    c.loop-i.i c.index-parts-i.result c.loop-i.out.items c.put_part.new.out.items _
    c.loop-i-test.true c.index-parts-i.is c.loop-i.invariant
    (c.in_ok-put_part.ensures (target_at c.args.targets.now c.loop-i.i) c.id_at.ensures)

pub returns : goal.returns
returns c = all_parts c.args.order c.args.strings.now c.args.layout c.args.parts.now
    c.args.targets.now c.loop-i.i c.loop-i.out.items _ c.loop-i-test.false c.loop-i.invariant
