use Rattle.std.proofs.Common.{arith}
use Rattle.dw_base.proofs.text_ends.first_behind.Goals as goal

pub returns-else-first-end : goal.returns-else-first-end
returns-else-first-end c = record {
  inside = c.requires.first.inside;
  none_before = λ k le l. c.requires.first.none_before k (omega arith) l;
  there = λ l. (omega (arith, c.if-first-end.false), (c.requires.first.there l).1);
}
