use Rattle.std.proofs.Common.{◌≡◌, ◌∙◌, ap}
use Rattle.std.proofs.lemmas.Result.{IfOk-weaker}
use Rattle.entry_tree.specs.Items.{with_first}
use Rattle.type_attributes.specs.Scopes.{scope}
use Rattle.c_types.specs.Readings.{UnitRead}
use Rattle.c_types.proofs.Reading as types
use Rattle.func_entries.proofs.Reading.{plain, functions_start, reading_more, ended}
use Rattle.func_entries.proofs.Reading.{same_functions}
use Rattle.func_entries.proofs.walking.read_entries.Goals as goal

pub entries-init : goal.entries-init
entries-init c =
    record {
      types = types.started (scope c.args.ctx) c.args.ctx.start.ending c.copy-walk.result
          c.in_ok-reader.reader c.copy-walk.ensures c.in_ok-reader.ensures
          c.requires.descending;
      unit = ap (λ (u : UnitRead). u.unit) c.in_ok-reader.ensures;
      functions = functions_start c.args.ctx c.copy.result c.copy-walk.result c.new-2.result.items
          c.new-3.result c.new-2.ensures.items c.new-3.ensures c.copy.ensures c.copy-walk.ensures
          c.requires.descending;
    }

pub entries-preserved : goal.entries-preserved
entries-preserved c =
    let step : c.entries.walk ≡ with_first c.in-Ok-Some.entry c.next.new.self =
    rw c.in-Ok-Some.field-0-is at c.in-Ok-Some.ensures in
    let t = c.in_ok-take-in-Ok-Some.ensures in
    let f = c.in_ok-take-in-Ok-Some-2.ensures in
    record {
      types = types.next_read (scope c.args.ctx) c.args.ctx.start.ending c.entries.reader
          c.entries.walk c.take.new.self c.next.new.self c.in-Ok-Some.entry step
          c.entries.invariant.unit c.entries.invariant.types t;
      unit = t.unit ∙ c.entries.invariant.unit;
      functions = reading_more (plain c.args.ctx c.copy.result) c.args.ctx.start.ending
          c.entries.gathering.heads.items c.take-in-Ok-Some.new.gathering.heads.items
          c.entries.gathering.reading c.take-in-Ok-Some.new.gathering.reading
          c.entries.walk c.next.new.self c.in-Ok-Some.entry
          step c.entries.invariant.functions f.heads f.taken;
    }

pub returns-in-Ok-None-clause-funcs : goal.returns-in-Ok-None-clause-funcs
returns-in-Ok-None-clause-funcs c =
    let step = (rw c.in-Ok-None.field-0-is at c.in-Ok-None.ensures).0 in
    IfOk-weaker c.end.result _ _ (λ u h. h (plain c.args.ctx c.copy.result)
    ∙ ended (plain c.args.ctx c.copy.result) c.args.ctx.start.ending
    c.entries.gathering.heads.items c.entries.gathering.reading c.entries.walk step
    c.entries.invariant.functions
    ∙ same_functions c.args.ctx c.copy.result c.args.ctx.start.ending c.copy.ensures) c.end.ensures.funcs
