-- Options: none is no choice, and what isn't some is none.
use Rattle.std.proofs.Common.{◌≡◌, false, Option, None, Some, refl}
use Rattle.std.specs.Option.{option_or, is_some}

pub or_none : {X : Type 0} (o : Option X) → option_or o None ≡ o
or_none None = refl
or_none (Some x) = refl

pub none_if_not_some : {X : Type 0} (o : Option X) → is_some o ≡ false → o ≡ None
none_if_not_some None e = refl
none_if_not_some (Some x) e = absurd (cc)
