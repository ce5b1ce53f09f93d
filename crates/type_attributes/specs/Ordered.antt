-- Where the types of a unit stand.
use Rattle.std.specs.Prelude.{ℕ, ◌<◌, ◌≤◌, List, [], ◌∷◌, All, ⊤}
use Rattle.type_attributes.specs.declared.source.SourceType.{SourceType}

-- each stands before all that come later
abbrev pub AreInOrder : List SourceType → Type 0
AreInOrder [] = ⊤
AreInOrder (t ∷ ts) = All (λ (later : SourceType). t.at < later.at) ts × AreInOrder ts

-- all stand from one place on and before another
abbrev pub LieIn : ℕ → ℕ → List SourceType → Type 0
LieIn from end ts = All (λ (t : SourceType). (from ≤ t.at) × (t.at < end)) ts
