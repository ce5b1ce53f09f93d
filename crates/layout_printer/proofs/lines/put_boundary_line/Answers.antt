use Rattle.std.proofs.lemmas.Result.{on_ok_weaker}
use Rattle.layout_printer.proofs.Appending.{three}
use Rattle.layout_printer.proofs.lines.put_boundary_line.Goals as goal

pub returns : goal.returns
returns c = on_ok_weaker c.put-2.result
    (three _ _ _ _ _ _ _ c.in_ok-put.ensures c.in_ok-put_count.ensures) c.put-2.ensures
