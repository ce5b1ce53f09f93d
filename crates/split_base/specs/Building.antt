-- What the passes over the nodes keep while a table is made.
use Rattle.std.specs.Prelude.{ℕ, ◌≡◌, ◌+◌, ◌-◌, ◌<◌, ◌==◌, ◌&&◌, ◌⊎◌, not, nat_lt, is_some, List}
use Rattle.std.specs.Prelude.{[], ◌∷◌, ◌++◌, length, slice_get, slice_index, slice_index_or, find}
use Rattle.std.specs.Prelude.{unwrap_or, All, Option, None, Some, Result, Ok, Err, if◌then◌else◌}
use Rattle.std.specs.List.{filter, position_or_len, range_with_len}
use Rattle.std.specs.Option.{option_map}
use Rattle.btf_codec.specs.Spelling.{HasOffset}
use Rattle.btf_codec.specs.declared.layout.KindLayout.{KindLayout}
use Rattle.btf_codec.specs.declared.layout.KindLayout.TheVariants.{Int, Link, Array, Forward}
use Rattle.btf_codec.specs.declared.layout.KindLayout.TheVariants.{TaggedLink, Float, Sized}
use Rattle.btf_codec.specs.declared.layout.KindLayout.TheVariants.{Prototype}
use Rattle.btf_codec.specs.declared.layout.PartLayout.TheVariants.{Member, Enumerator}
use Rattle.btf_codec.specs.declared.layout.PartLayout.TheVariants.{WideEnumerator, Parameter}
use Rattle.btf_codec.specs.declared.layout.PartLayout.TheVariants.{Variable}
use Rattle.btf_strings.specs.Names.{Names, with_name}
use Rattle.c_model.specs.Graph.{Shape}
use Rattle.c_model.specs.Forwards.{forward_at}
use Rattle.c_model.specs.declared.graph.CType.{CType}
use Rattle.split_base.specs.Refusals.{far_name}
use Rattle.split_base.specs.Table.{first_of, own_firsts, is_plain, renamed_type}
use Rattle.split_base.specs.declared.fault.TableFault.{TableFault}
use Rattle.split_base.specs.declared.fault.TableFault.TheVariants.{NamesTooLong, Memory}

-- the first node of a class number
abbrev pub first_with : List ℕ → ℕ → ℕ
first_with p number = position_or_len (λ c. c == number) p

-- the place of the class whose first node is f
abbrev pub place_from : Shape → List ℕ → ℕ → ℕ
place_from g p f =
    if nat_lt f g.base then f else g.base + position_or_len (λ y. y == f) (own_firsts g p)

-- the own first nodes below a node
abbrev pub firsts_below : Shape → List ℕ → ℕ → List ℕ
firsts_below g p x = filter (λ y. first_of p y == y) (range_with_len g.base (x - g.base))

-- the classes of the nodes below x have their places by their numbers, and their own first nodes
-- are listed
pub record IsPlaced (g : Shape) (p : List ℕ) (x : ℕ) (known : ℕ → Option ℕ)
    (firsts : List ℕ) : Type 0 where
  pub places :
      (number : ℕ)
      → known number ≡ (if nat_lt (first_with p number) x
      then Some (place_from g p (first_with p number)) else None)
  pub listed : firsts ≡ firsts_below g p x

-- a first node gets its place, and is listed where it is no base node
abbrev pub TakesPlace : ℕ → ℕ → List ℕ → List ℕ → ℕ → Type 0
TakesPlace base x old new place =
    (place ≡ (if nat_lt x base then x else base + length old))
    × (new ≡ (if nat_lt x base then old else old ++ x ∷ []))

-- the first node below x that is no forward and of the class at a place
abbrev pub plain_below : Shape → List ℕ → ℕ → ℕ → Option ℕ
plain_below g places x place =
    find (λ k. slice_index places k == place && not (is_some (forward_at g k))) (range_with_len 0 x)

-- of each own class such a node is noted
pub record IsNoted (g : Shape) (places : List ℕ) (x : ℕ) (plain : List (Option ℕ)) : Type 0 where
  pub each : (i : ℕ) → i < length plain
      → slice_index_or plain i None ≡ plain_below g places x (g.base + i)

-- the source of the class whose first node is f
abbrev pub source_by : Shape → List ℕ → ℕ → ℕ
source_by g places f = unwrap_or (find (is_plain g places f) (range_with_len 0 (length g.nodes))) f

-- a node as a type of the table, by the places of the classes of all nodes
abbrev pub type_by : Shape → List ℕ → ℕ → Option CType
type_by g places s = option_map (renamed_type (slice_index places)) (slice_get g.nodes s)

-- names are put in order
unfoldable pub with_names : Names → List (List ℕ) → Names
with_names strings [] = strings
with_names strings (name ∷ names) = with_names (with_name strings name) names

-- these names were put, none of them far
pub record ArePut (old : Names) (names : List (List ℕ)) (new : Names) : Type 0 where
  pub is : new ≡ with_names old names
  pub near : far_name old names ≡ None
  pub offsets : All (HasOffset new) names

-- a call that puts these names
abbrev pub PutsNames : Names → List (List ℕ) → Names → Result (Unit {0}) TableFault → Type 0
PutsNames old names new (Ok u) = ArePut old names new
PutsNames old names new (Err e) =
    (e ≡ Memory) ⊎ (option_map (λ (at : ℕ). NamesTooLong at) (far_name old names) ≡ Some e)

-- how many words a type of a layout has besides those of its parts: its name, its info word, and
-- what follows them
abbrev pub words_besides : Option KindLayout → ℕ
words_besides None = 2
words_besides (Some Int) = 4
words_besides (Some Link) = 3
words_besides (Some Array) = 6
words_besides (Some Forward) = 3
words_besides (Some TaggedLink) = 4
words_besides (Some Float) = 3
words_besides (Some (Sized part)) = 3
words_besides (Some Prototype) = 3

-- how many words each of its parts has
abbrev pub words_each : Option KindLayout → ℕ
words_each (Some (Sized Member)) = 3
words_each (Some (Sized Enumerator)) = 2
words_each (Some (Sized WideEnumerator)) = 3
words_each (Some (Sized Parameter)) = 2
words_each (Some (Sized Variable)) = 3
words_each (Some Prototype) = 2
words_each other = 0
