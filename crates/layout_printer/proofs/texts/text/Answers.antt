use Rattle.layout_printer.proofs.Wholes.{text_whole}
use Rattle.layout_printer.proofs.texts.text.Goals as goal

pub returns : goal.returns
returns c =
    text_whole c.args.table.now.types c.items-types.result.now c.args.id c.args.line
    c.args.shown.now c.ref_of.result c.items.result.now
    c.new-out.result.items c.put_head.new.out.items c.put_members.new.out.items
    c.put_summary.new.out.items c.put_foot.new.out.items c.new.result
    c.items-types.ensures c.ref_of.ensures c.items.ensures c.new-out.ensures.items
    c.in_ok-put_head.ensures c.in_ok-put_members.ensures c.in_ok-put_summary.ensures
    c.in_ok-put_foot.ensures c.new.ensures
