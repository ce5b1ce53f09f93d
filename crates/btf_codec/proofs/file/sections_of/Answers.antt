use Rattle.std.proofs.Common.{◌-◌, length, take, drop, sym, ◌∙◌, arith}
use Rattle.std.proofs.lemmas.List.{take_rest}
use Rattle.btf_codec.proofs.Splitting.{sections_are}
use Rattle.btf_codec.proofs.file.sections_of.Goals as goal

pub returns-clause-sections : goal.returns-clause-sections
returns-clause-sections c =
    sections_are c.args.order c.args.bytes.now (take (length c.args.bytes.now - 24)
    (drop 24 c.args.bytes.now)) c.split_at.result.0.now c.split_at.result.1.now c.word_in.result
    c.if-bytes-lt-HEADER_LEN.false (sym c.is_header.ensures ∙ c.if-not-is_header.false)
    c.word_in.ensures
    (take_rest c.args.bytes.now 24) c.split_at.ensures.front c.split_at.ensures.back

pub returns-clause-few : goal.returns-clause-few
returns-clause-few c = omega (arith, c.split_at.ensures.front_len, c.word_in.type_inv)
