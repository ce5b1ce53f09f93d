-- Nodes linked: a reference becomes the number of the node whose entry begins at the offset in the
-- same file, within its unit or not.
use Rattle.std.specs.Prelude.{ℕ, ◌≡◌, ◌+◌, ◌==◌, ◌&&◌, ◌^◌, nat_lt, Bool, false, List, [], ◌∷◌}
use Rattle.std.specs.Prelude.{◌++◌, length, Option, None, Some, Result, Ok, Err, Vec, if◌then◌else◌}
use Rattle.std.specs.Global.{Global}
use Rattle.c_model.specs.declared.graph.CType.{CType}
use Rattle.c_model.specs.declared.graph.Ref.{Ref}
use Rattle.c_model.specs.declared.graph.Ref.TheVariants.{Void, Node}
use Rattle.type_attributes.specs.declared.source.Target.{Target}
use Rattle.type_attributes.specs.declared.source.Target.TheVariants as targets
use Rattle.unit_graph.specs.declared.links.Out.{Out}
use Rattle.unit_graph.specs.Sources.{Source, FileUnit, gathered}

abbrev pub at_offset : ℕ → Option ℕ → Bool
at_offset to None = false
at_offset to (Some at) = at == to

-- the entry of a node begins at a place: a file, and an offset in its .debug_info
abbrev pub is_at : ℕ × ℕ → Source → Bool
is_at p s = s.file == p.0 && at_offset p.1 s.at

abbrev pub or_here : ℕ → Bool → Option ℕ → Option ℕ
or_here k here (Some n) = Some n
or_here k here None = if here then Some k else None

-- the number of the node whose entry begins at a place, among nodes that are numbered from k (no
-- two begin at one place)
abbrev pub number_from : ℕ × ℕ → ℕ → List Source → Option ℕ
number_from p k [] = None
number_from p k (s ∷ ss) = or_here k (is_at p s) (number_from p (k + 1) ss)

-- an offset that passes 64 bits is no place
abbrev pub number_of : List Source → ℕ → ℕ → Option ℕ
number_of all file to = if nat_lt to (2 ^ 64) then number_from (file, to) 0 all else None

-- what a target refers to, for a node of a file whose unit has its type of indices at a number
abbrev pub linked_to : ℕ → ℕ → ℕ → Option ℕ → Result Ref Out
linked_to file from to None = Err (record { file = file; from = from; to = to })
linked_to file from to (Some n) = Ok (Node n)

abbrev pub ref_of : List Source → ℕ → ℕ → Target → Result Ref Out
ref_of all file index targets.Void = Ok Void
ref_of all file index targets.Index = if nat_lt index (length all) then Ok (Node index) else Ok Void
ref_of all file index (targets.Entry from to) = linked_to file from to (number_of all file to)

abbrev pub with_ref : List Ref → Result Ref Out → (List Ref → Result (List Ref) Out)
    → Result (List Ref) Out
with_ref seen (Err o) go = Err o
with_ref seen (Ok r) go = go (seen ++ r ∷ [])

-- the references of a node, or the first that names no node
unfoldable pub refs_from : List Source → ℕ → ℕ → List Ref → List Target → Result (List Ref) Out
refs_from all file index seen [] = Ok seen
refs_from all file index seen (t ∷ ts) =
    with_ref seen (ref_of all file index t) (λ more. refs_from all file index more ts)

-- references that were found, as a list
abbrev pub seen : Result (Vec Ref Global) Out → Result (List Ref) Out
seen (Ok v) = Ok v.items
seen (Err o) = Err o

abbrev pub with_refs : Source → List CType → Result (List Ref) Out
    → (List CType → Result (List CType) Out) → Result (List CType) Out
with_refs s seen (Err o) go = Err o
with_refs s seen (Ok rs) go = go (seen ++ record { label = s.label; targets = rs } ∷ [])

-- the nodes in order, or the first reference that names none
unfoldable pub nodes_from : List Source → List CType → List Source → Result (List CType) Out
nodes_from all seen [] = Ok seen
nodes_from all seen (s ∷ ss) =
    with_refs s seen (refs_from all s.file s.index [] s.targets) (λ more. nodes_from all more ss)

-- nodes are the graph of some units: none of these is refused, and each reference names a node
pub record IsGraphOf (units : List FileUnit) (nodes : List CType) : Type 0 where
  pub all : List Source
  pub gathers : gathered 0 [] units ≡ Ok all
  pub links : nodes_from all [] all ≡ Ok nodes
