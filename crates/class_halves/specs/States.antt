-- What is true of the parts between two steps, and what a step does to them.
use Rattle.std.specs.Prelude.{◌≡◌, ◌<◌, ◌≤◌, ◌+◌, ◌*◌, ℕ, Bool, List, [], Some, None}
use Rattle.std.specs.Prelude.{length, slice_index_or}
use Rattle.c_model.specs.Graph.{Shape}
use Rattle.class_halves.specs.Halving.{IsFiner, IsOrderly, IsHalving}
use Rattle.class_halves.specs.Listed.{how_many}
use Rattle.class_halves.specs.Moves.{IsReady, IsMoving, HasMoved, AreTwins, NoTwins, SplitsOnce}
use Rattle.class_halves.specs.Parts.{Splits, Waits, ArePartsOf, IsStable, IsSettled, is_of_part}
use Rattle.class_halves.specs.Sums.{sum_where}
use Rattle.class_halves.specs.declared.parts.SplitParts.{SplitParts}

-- whenever no class is being split: the parts are parts of the graph, each class that waits is in
-- use, and classes are told apart by the parts of their targets, but for those that wait and what
-- is due
pub record AreSound (g : Shape) (index : List (List ℕ)) (p : SplitParts) (due : ℕ → Type 0)
    (taken : ℕ → Bool) : Type 0 where
  pub ready : IsReady p.members.classes p.count p.twins.items p.members.marked.items
  pub parts : ArePartsOf g index p.members.classes p.beside.items p.waiting p.count
  pub waits : (c : ℕ) → Waits p.waiting c → c < p.count
  pub stable : IsStable g index p.members.classes p.waiting due taken

-- c is the class of a part: no class of forwards that stands beside another one
pub record IsPart (p : SplitParts) (c : ℕ) : Type 0 where
  pub within : c ≤ length p.members.classes
  pub alone : (a : ℕ) → slice_index_or p.beside.items a None ≡ Some c → ⊥

-- the nodes of the part of class c
abbrev pub nodes_of : List (List ℕ) → SplitParts → ℕ → ℕ → Bool
nodes_of index p c = is_of_part index p.members.classes c

-- how many references lead into the part of class c, of these to each of n nodes
abbrev pub led_into : List (List (ℕ × ℕ)) → List (List ℕ) → SplitParts → ℕ → ℕ → ℕ
led_into lists index p c n =
    sum_where (λ x. length (slice_index_or lists x [])) (nodes_of index p c) n

-- parts are finer than others
abbrev pub AreFiner : List (List ℕ) → ℕ → SplitParts → SplitParts → Type 0
AreFiner index n p p' = IsFiner index n p.members.classes p'.members.classes p.waiting p'.waiting

-- for each class that was split at most three more wait
abbrev pub WaitByThree : SplitParts → SplitParts → Type 0
WaitByThree p p' = how_many p'.waiting + 3 * p.count ≤ how_many p.waiting + 3 * p'.count

-- some marked nodes were moved to the twins of their classes, which the splits tell
pub record IsMidway (raw0 : List ℕ) (count0 : ℕ) (p : SplitParts) (splits : Splits) : Type 0 where
  pub moving : IsMoving raw0 p.members.classes p.members.marked.items splits count0 p.count
  pub twins : AreTwins p.twins.items splits

-- marked nodes were moved, and nothing else was changed
pub record DifferByMoves (p p' : SplitParts) : Type 0 where
  pub many : length p'.members.classes ≡ length p.members.classes
  pub marked : p'.members.marked.items ≡ p.members.marked.items
  pub beside : p'.beside.items ≡ p.beside.items
  pub waiting : p'.waiting ≡ p.waiting

-- marked node x was moved, or stayed in a class that is marked whole
abbrev pub HaveMoved : SplitParts → Splits → SplitParts → Splits → ℕ → Type 0
HaveMoved p splits p' splits' x = (raw0 : List ℕ) → (count0 : ℕ)
    → IsMoving raw0 p.members.classes p.members.marked.items splits count0 p.count
    → HasMoved raw0 p.members.classes p'.members.classes p.members.marked.items x splits' count0
    p'.count

-- it is settled which parts of classes that were split wait
pub record AreSettled (splits : Splits) (p p' : SplitParts) : Type 0 where
  pub settled : IsSettled splits p.beside.items p'.beside.items p.waiting p'.waiting
  pub halving : IsOrderly splits p.beside.items
      → IsHalving p.members.classes splits p.beside.items p.waiting p'.waiting
  pub twins : NoTwins p'.twins.items
  pub few : how_many p'.waiting ≤ how_many p.waiting + 3 * length splits

-- the parts were split by whether their nodes are among these
abbrev pub AreSplitBy : List ℕ → SplitParts → SplitParts → Type 0
AreSplitBy nodes p p' = SplitsOnce nodes p.members.classes p'.members.classes p.beside.items
    p'.beside.items p.waiting p'.waiting p.count p'.count
