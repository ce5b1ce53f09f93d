-- Constants by their sign.
use Rattle.std.specs.Prelude.{ℤ, pos, negsuc}
use Rattle.type_attributes.specs.declared.number.Number.{Number}
use Rattle.type_attributes.specs.declared.number.Number.TheVariants.{Natural, Negative}

abbrev pub number_from : ℤ → Number
number_from (pos n) = Natural n
number_from (negsuc n) = Negative n

abbrev pub integer : Number → ℤ
integer (Natural n) = pos n
integer (Negative n) = negsuc n
