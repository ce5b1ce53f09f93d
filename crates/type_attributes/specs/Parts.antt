-- Lists of parts: what is made of the children of a tag, and their refusals.
use Rattle.std.specs.Prelude.{ℕ, ◌==◌, ◌||◌, Bool, false, List, [], ◌∷◌, ◌++◌}
use Rattle.c_model.specs.declared.label.Part.{Part}
use Rattle.entry_tree.specs.Items.{Given}
use Rattle.type_attributes.specs.declared.fault.TypeFault.{TypeFault}

abbrev pub part_of : List ℕ → ℕ → Part
part_of name value = record { name = name; value = value }

-- the refusals of some entries, in order
abbrev pub refusals_by : (Given → List TypeFault) → List Given → List TypeFault
refusals_by refused [] = []
refusals_by refused (e ∷ es) = refused e ++ refusals_by refused es

-- one of some entries passes a test
abbrev pub some_is : (Given → Bool) → List Given → Bool
some_is test [] = false
some_is test (e ∷ es) = test e || some_is test es

-- one has a tag
abbrev pub some_tagged : ℕ → List Given → Bool
some_tagged tag es = some_is (λ (e : Given). e.tag == tag) es

-- the most parts of a type
abbrev pub most : ℕ
most = 65535
