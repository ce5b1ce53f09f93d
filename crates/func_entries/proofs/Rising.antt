-- The functions of a unit stand where their entries do.
use Rattle.std.proofs.Common.{◌≡◌, ℕ, ◌<◌, ◌≤◌, Bool, true, false, List, [], ◌∷◌, Ok}
use Rattle.std.proofs.Common.{if◌then◌else◌, subst}
use Rattle.std.specs.Prelude.{All}
use Rattle.std.proofs.lemmas.List.Elements.{All-nil, All-cons, All-head, All-tail}
use Rattle.dwarf_abbrev.specs.Declarations.{Declaration}
use Rattle.dwarf_forms.specs.Meanings.{Sections}
use Rattle.entry_tree.specs.Items.{Given}
use Rattle.entry_tree.specs.Rising.{Rises}
use Rattle.entry_tree.specs.Walks.{entries_of}
use Rattle.entry_tree.proofs.Rising.{entries_placed}
use Rattle.type_attributes.specs.declared.source.SourceType.{SourceType}
use Rattle.type_attributes.specs.Scopes.{scope_of}
use Rattle.type_attributes.specs.Ordered.{AreInOrder, LieIn}
use Rattle.func_entries.specs.declared.entries.FuncEntry.{FuncEntry}
use Rattle.func_entries.specs.Functions.{is_function, function_at, functions_of}
use Rattle.func_entries.specs.Laws.{protos_of, FunctionsRise}
use Rattle.func_entries.specs.Units.{functions_in}
use Rattle.func_entries.proofs.Accepted.{in_walk, in_unit}

-- what holds of the places of all entries holds of those of the functions
one_stands : (P : ℕ → Type 0) (t : Bool) (f : FuncEntry) (fs : List FuncEntry) → P f.proto.at
    → All (λ (s : SourceType). P s.at) (protos_of fs)
    → All (λ (s : SourceType). P s.at) (protos_of (if t then f ∷ fs else fs))
one_stands P true f fs h k = All-cons (λ (s : SourceType). P s.at) f.proto (protos_of fs) h k
one_stands P false f fs h k = k

all_stand : (P : ℕ → Type 0) (c : Sections) (es : List Given) → All (λ (e : Given). P e.at) es
    → All (λ (s : SourceType). P s.at) (protos_of (functions_of c es))
all_stand P c [] h = All-nil (λ (s : SourceType). P s.at)
all_stand P c (e ∷ es) h =
    one_stands P (is_function c e) (function_at c e es) (functions_of c es) (All-head
    (λ (g : Given). P g.at) e es h) (all_stand P c es (All-tail (λ (g : Given). P g.at) e es h))

one_first : (t : Bool) (f : FuncEntry) (fs : List FuncEntry)
    → All (λ (s : SourceType). f.proto.at < s.at) (protos_of fs) → AreInOrder (protos_of fs)
    → AreInOrder (protos_of (if t then f ∷ fs else fs))
one_first true f fs h k = (h, k)
one_first false f fs h k = k

all_in_order : (c : Sections) (es : List Given) → Rises es
    → AreInOrder (protos_of (functions_of c es))
all_in_order c [] h = tt
all_in_order c (e ∷ es) h = one_first (is_function c e) (function_at c e es) (functions_of c es)
    (all_stand (λ (n : ℕ). e.at < n) c es h.0) (all_in_order c es h.1)

pub functions_in_order : FunctionsRise
functions_in_order file unit =
    in_unit file unit (λ (u : List FuncEntry). AreInOrder (protos_of u)
    × LieIn unit.first unit.end (protos_of u)) (
      tt,
      All-nil (λ (t : SourceType). (unit.first ≤ t.at) × (t.at < unit.end)),
    )
    (λ (declarations : List Declaration) (base : ℕ) (u : List FuncEntry) (e : functions_in
    (scope_of file unit declarations base) (entries_of file unit declarations).ending ≡ Ok u).
    let s = scope_of file unit declarations base in
    let walk = entries_of file unit declarations in
    let placed = entries_placed file unit declarations in
    subst (λ (v : List FuncEntry). AreInOrder (protos_of v)
    × LieIn unit.first unit.end (protos_of v)) (in_walk s walk.ending u e).1 (
      all_in_order s.sections walk.entries placed.0,
      all_stand (λ (n : ℕ). (unit.first ≤ n) × (n < unit.end)) s.sections walk.entries placed.1,
    ))
