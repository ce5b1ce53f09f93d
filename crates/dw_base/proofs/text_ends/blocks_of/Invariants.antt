use Rattle.std.proofs.Common.{◌≡◌, ◌*◌, ◌≤◌, length}
use Rattle.dw_base.specs.Ends.{IsFirstNul, AreBlocksOf}
use Rattle.dw_base.proofs.text_ends.blocks_of.Given as goal

abbrev pub invariant-loop-number : goal.invariant-loop-number
invariant-loop-number l = record {
  blocks : AreBlocksOf l.bytes l.blocks.items;
  count : length l.blocks.items ≡ l.number;
  behind : IsFirstNul l.bytes (64 * l.number) l.behind;
  whole : 64 * l.count ≤ length l.bytes;
}
