use Rattle.std.proofs.Common.{◌≡◌, drop}
use Rattle.pahole_help.specs.Asked.{text_in}
use Rattle.pahole_help.proofs.pages.text_in.Given as goal

-- none of the tables so far has the key
abbrev pub invariant-loop-table : goal.invariant-loop-table
invariant-loop-table l = text_in l.tables l.key ≡ text_in (drop l.table-index l.tables) l.key
