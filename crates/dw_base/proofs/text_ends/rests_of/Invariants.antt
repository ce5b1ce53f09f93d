use Rattle.std.proofs.Common.{◌≡◌, ◌+◌, ◌-◌, ◌*◌, ◌/◌, length}
use Rattle.dw_base.specs.Ends.{IsRestAt, AreRestsOf}
use Rattle.dw_base.proofs.text_ends.rests_of.Given as goal

abbrev pub invariant-loop-j : goal.invariant-loop-j
invariant-loop-j l = record {
  rests : AreRestsOf l.bytes l.rests.items;
  count : length l.rests.items ≡ l.j;
  behind : IsRestAt l.bytes (4096 * (length l.bytes / 4096 + 1 - l.j)) l.rest;
}
