-- One child more: what it makes and refuses where it has a tag.
use Rattle.std.specs.Prelude.{ℕ, ◌==◌, List, [], ◌∷◌, if◌then◌else◌}
use Rattle.entry_tree.specs.Items.{Given}
use Rattle.type_attributes.specs.declared.fault.TypeFault.{TypeFault}

abbrev pub made_if : {X : Type 0} → ℕ → (Given → X) → Given → List X
made_if tag make e = if e.tag == tag then make e ∷ [] else []

abbrev pub refused_if : ℕ → (Given → List TypeFault) → Given → List TypeFault
refused_if tag refused e = if e.tag == tag then refused e else []
