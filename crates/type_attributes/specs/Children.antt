-- The direct children of an entry: those one deeper among the entries after it, up to the first
-- that is not deeper.
use Rattle.std.specs.Prelude.{ℕ, ◌≡◌, ◌-◌, ◌==◌, nat_le, List, [], ◌∷◌, Option, None, Some}
use Rattle.std.specs.Prelude.{if◌then◌else◌}
use Rattle.entry_tree.specs.Items.{Given}

abbrev pub children_of : ℕ → List Given → List Given
children_of depth [] = []
children_of depth (e ∷ es) =
    if nat_le e.depth depth then []
    else (if e.depth - depth == 1 then e ∷ children_of depth es else children_of depth es)

-- one child is taken, or there is none
abbrev pub Takes : List Given → List Given → Option Given → Type 0
Takes old new None = old ≡ []
Takes old new (Some e) = old ≡ e ∷ new

-- those of a tag
abbrev pub tagged : ℕ → List Given → List Given
tagged tag [] = []
tagged tag (e ∷ es) = if e.tag == tag then e ∷ tagged tag es else tagged tag es
