use Rattle.shown_types.proofs.Keeping.{line_is}
use Rattle.shown_types.proofs.showing.put_piece.Goals as goal

pub returns-then-source : goal.returns-then-source
returns-then-source c =
    rw (line_is c.args.source.table.now.types c.args.source.style c.args.x c.args.counted.now
    c.requires.counted c.if-source.true)
    (rw c.items.ensures at c.put_line.ensures)
