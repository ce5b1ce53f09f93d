use Rattle.std.proofs.Common.{◌≡◌, Err, map, rules, sym}
use Rattle.std.specs.Prelude.{string_bytes}
use Rattle.std.proofs.lemmas.List.{length-map}
use Rattle.command_line.proofs.Finishing.{job_told, job_stopped}
use Rattle.command_line.specs.Reading.{before_by}
use Rattle.command_line.proofs.scan.job_of.Goals as goal

pub returns-in_err-at-clause-told : goal.returns-in_err-at-clause-told
returns-in_err-at-clause-told c =
    let gone : c.from_residual.result ≡ Err c.in_err-at.field-0.0 = search rules in
    job_stopped (map string_bytes c.args.words.now) c.loop-word.at c.loop-word.seen
    c.read_word.new.seen c.in_err-at.field-0.0 _
    c.loop-word.invariant c.in_err-at.ensures gone

pub returns-clause-told : goal.returns-clause-told
returns-clause-told c =
    let seen = c.loop-word.seen in
    let told = rw c.as_slice.ensures.value at c.finished.ensures.told in
    job_told (map string_bytes c.args.words.now)
    (before_by seen.only_files) c.loop-word.at _ seen.uses.items seen.files.items
    c.finished.result c.loop-word.invariant c.in_default.ensures.word
    (sym (length-map c.args.words.now string_bytes)) told
