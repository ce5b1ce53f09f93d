use Rattle.std.proofs.Common.{◌≡◌, ◌⊎◌, inl, inr, true, map, arith, sym}
use Rattle.std.specs.Prelude.{string_bytes}
use Rattle.command_line.specs.Words.{is_file}
use Rattle.command_line.proofs.WordReads.{file_read, dashes_read, unknown_read, option_read}
use Rattle.command_line.proofs.scan.read_word.Goals as goal
use Rattle.command_line.proofs.scan.read_word.Goals.{then-seen-via-then-seen}
use Rattle.command_line.proofs.scan.read_word.Goals.{then-seen-via-else-seen+then-is_file}

pub returns-then-seen : goal.returns-then-seen
returns-then-seen c =
    let ws = map string_bytes c.args.words.now in
    let old = c.args.seen.now in
    let new = c.add_file.new.self in
    let why : (old.only_files ≡ true) ⊎ (is_file c.args.word.now ≡ true) =
    elim c.then-seen.branch [
      | then-seen-via-then-seen w ↦ inl w.if-seen.true
      | then-seen-via-else-seen+then-is_file w ↦ inr (sym w.if-is_file.ensures)
    ] in (
      omega arith,
      λ k.
          file_read ws c.args.at old.uses.items new.uses.items old.files.items new.files.items
          c.args.word.now old.only_files new.only_files
          c.requires.word why c.in_ok-add_file.ensures.uses c.in_ok-add_file.ensures.files
          c.in_ok-add_file.ensures.only_files k,
    )

pub returns-then-eq : goal.returns-then-eq
returns-then-eq c =
    let ws = map string_bytes c.args.words.now in
    let old = c.args.seen.now in (
      omega arith,
      λ k.
          dashes_read ws c.args.at old.uses.items old.files.items c.args.word.now old.only_files
          c.requires.word c.if-seen.false
          c.if-is_file.ensures c.if-eq.ensures k,
    )

pub returns-in-Some : goal.returns-in-Some
returns-in-Some c =
    let ws = map string_bytes c.args.words.now in
    option_read ws c.args.at c.args.seen.now c.read_option.new.seen c.args.word.now c.in-Some.option
    c.read_option.result
    c.requires.word c.if-seen.false c.if-is_file.ensures c.if-eq.ensures c.in-Some.ensures
    c.read_option.ensures

pub returns-in-None : goal.returns-in-None
returns-in-None c =
    let ws = map string_bytes c.args.words.now in
    let old = c.args.seen.now in
    λ k.
    unknown_read ws c.args.at old.uses.items old.files.items c.args.word.now old.only_files
    c.fault.result
    c.requires.word c.if-seen.false c.if-is_file.ensures c.if-eq.ensures c.in-None.ensures
    c.fault.ensures.word c.fault.ensures.code k
