use Rattle.std.proofs.lemmas.Result.{on_ok_weaker}
use Rattle.layout_printer.proofs.Appending.{four}
use Rattle.layout_printer.proofs.lines.put_hole.Goals as goal

pub returns : goal.returns
returns c = on_ok_weaker c.put_if-2.result (four _ _ _ _ _ _ _ _ _ c.in_ok-put_if.ensures
    c.in_ok-put_count.ensures c.in_ok-put_count-2.ensures) c.put_if-2.ensures
