use Rattle.std.proofs.Common.{◌+◌, ◌-◌, ap, sym, ◌∙◌, arith}
use Rattle.type_attributes.specs.Extents.{bytes_after, most_followed}
use Rattle.type_attributes.specs.Rows.{extent_in}
use Rattle.type_attributes.proofs.Searching.{followed, unfound}
use Rattle.type_attributes.proofs.extents.find_bytes.Goals as goal

pub loop-i-preserved : goal.loop-i-preserved
loop-i-preserved c =
    ap (bytes_after (extent_in c.args.rows.now) (most_followed - (c.loop-i.i + 1)))
    c.find_extent-found-in-SameAs.ensures
    ∙ sym (followed (extent_in c.args.rows.now) (most_followed - c.loop-i.i)
    (most_followed - (c.loop-i.i + 1)) c.in-SameAs.next c.loop-i.found
    (omega (arith, c.loop-i-test.true)) c.in-SameAs.is)
    ∙ c.loop-i.invariant

pub returns-in_default : goal.returns-in_default
returns-in_default c =
    sym (unfound (extent_in c.args.rows.now) (most_followed - c.loop-i.i) c.loop-i.found
    (omega (arith, c.loop-i-test.false)) c.in_default.not-Bytes) ∙ c.loop-i.invariant
