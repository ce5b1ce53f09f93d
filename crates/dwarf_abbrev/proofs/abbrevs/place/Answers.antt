use Rattle.std.proofs.Common.{◌-◌, refl, sym, ◌∙◌, arith}
use Rattle.dwarf_abbrev.specs.Rows.{declarations_of}
use Rattle.dwarf_abbrev.proofs.Placing.{guessed, looked_up, declarations_length, row_code_is}
use Rattle.dwarf_abbrev.proofs.abbrevs.place.Goals as goal

pub returns-in-Some : goal.returns-in-Some
returns-in-Some c = λ specs placed.
    let some = c.in-Some.ensures.some in
    let rows = c.args.rows.now in
    sym (guessed (declarations_of specs rows) c.args.others.now c.args.code c.in-Some.index placed
    (omega (arith, some.0, declarations_length specs rows))
    (row_code_is specs rows c.in-Some.index ∙ some.1))

pub returns-in-None : goal.returns-in-None
returns-in-None c = λ specs placed.
    let rows = c.args.rows.now in
    c.copied.ensures ∙ c.get.ensures.value
    ∙ looked_up (declarations_of specs rows) c.args.others.now c.args.code placed
    (λ pos within is. c.in-None.ensures.none refl pos
    (omega (arith, within, declarations_length specs rows))
    (sym (row_code_is specs rows (c.args.code - 1)) ∙ is))
