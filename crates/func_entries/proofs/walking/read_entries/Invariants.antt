use Rattle.std.proofs.Common.{◌≡◌, length}
use Rattle.type_attributes.specs.Scopes.{scope}
use Rattle.c_types.proofs.Reading as types
use Rattle.func_entries.proofs.Reading.{IsReading}
use Rattle.func_entries.proofs.walking.read_entries.Given as goal

abbrev pub invariant-entries : goal.invariant-entries
invariant-entries l = record {
  types : types.IsReading (scope l.fn.ctx) l.fn.ctx.start.ending l.reader.read l.reader.has_array
      l.walk;
  unit : l.reader.unit ≡ scope l.fn.ctx;
  functions : IsReading (scope l.plain) l.fn.ctx.start.ending l.gathering.heads.items
      l.gathering.reading l.walk;
}

abbrev pub decreases-entries : goal.decreases-entries
decreases-entries l = length l.walk.entries
