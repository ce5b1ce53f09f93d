use Rattle.command_line.proofs.Spelling.{prefix_stripped}
use Rattle.command_line.proofs.uses.behind_spelling.Goals as goal

pub returns-in-SameWord : goal.returns-in-SameWord
returns-in-SameWord c =
    rw c.in-SameWord.is (prefix_stripped c.args.spelling.now c.args.word.now c.strip_prefix.result
    c.strip_prefix.ensures.cases)
