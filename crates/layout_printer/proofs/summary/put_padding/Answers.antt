use Rattle.std.proofs.lemmas.Result.{on_ok_weaker}
use Rattle.layout_printer.proofs.Appending.{two}
use Rattle.layout_printer.proofs.summary.put_padding.Goals as goal

pub returns : goal.returns
returns c = on_ok_weaker c.put_count-2.result
    (two _ _ _ _ _ c.in_ok-put_count.ensures) c.put_count-2.ensures
