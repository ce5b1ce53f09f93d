use Rattle.std.proofs.Common.{Some, ap, ◌∙◌, sym}
use Rattle.std.specs.Prelude.{string_bytes}
use Rattle.command_line.proofs.Positions.{first_at}
use Rattle.command_line.proofs.scan.word_at.Goals as goal

pub returns-in-Some-clause-word : goal.returns-in-Some-clause-word
returns-in-Some-clause-word c =
    ap Some c.as_str.ensures.value
    ∙ sym (first_at string_bytes c.args.words.now c.args.at c.in-Some.word.now
    c.in-Some.ensures.lookup.3.0 c.in-Some.ensures.lookup.1)
