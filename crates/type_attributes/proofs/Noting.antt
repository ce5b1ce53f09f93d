-- Noting the refusals of two lists one after the other.
use Rattle.std.proofs.Common.{◌≡◌, List, [], ◌∷◌, ◌++◌, Option, refl}
use Rattle.type_attributes.specs.declared.fault.TypeFault.{TypeFault}
use Rattle.type_attributes.specs.Faults.{lesser, noted}

pub noted_append : (o : Option TypeFault) (xs ys : List TypeFault)
    → noted o (xs ++ ys) ≡ noted (noted o xs) ys
noted_append o [] ys = refl
noted_append o (x ∷ xs) ys = noted_append (lesser o x) xs ys
