-- Where the entries of a unit stand: their places rise, and lie between the unit's header and its
-- end.
use Rattle.std.specs.Prelude.{ℕ, ◌<◌, ◌≤◌, List, [], ◌∷◌, All, ⊤}
use Rattle.dwarf_abbrev.specs.Declarations.{Declaration}
use Rattle.entry_tree.specs.Items.{Given}
use Rattle.entry_tree.specs.Walks.{entries_of}
use Rattle.entry_tree.specs.declared.unit.Unit.{Unit}

-- each entry stands before all that come later
abbrev pub Rises : List Given → Type 0
Rises [] = ⊤
Rises (e ∷ es) = All (λ (later : Given). e.at < later.at) es × Rises es

-- all stand from one place on and before another
abbrev pub StandIn : ℕ → ℕ → List Given → Type 0
StandIn from end es = All (λ (e : Given). (from ≤ e.at) × (e.at < end)) es

-- the entries of a unit rise, and stand behind its header and before its end, also where a fault
-- ends them
abbrev pub EntriesRise : Type 0
EntriesRise =
    (file : List ℕ) (unit : Unit) (declarations : List Declaration)
    → Rises (entries_of file unit declarations).entries
    × StandIn unit.first unit.end (entries_of file unit declarations).entries
