use Rattle.std.proofs.Common.{refl}
use Rattle.c_types.proofs.functions.function_type.Goals as goal

pub returns : goal.returns
returns c = rw (
  c.in_ok-parts.ensures,
  c.new.ensures,
  c.new-2.ensures,
  c.in_ok-targets.ensures.items,
) refl
