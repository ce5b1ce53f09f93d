-- Rows that are made of nodes: those of two lists, and the numbers that they have.
use Rattle.std.proofs.Common.{◌≡◌, ◌+◌, ◌==◌, ◌&&◌, ◌++◌, ◌∷◌, [], ℕ, Bool, false, List}
use Rattle.std.proofs.Common.{Option, None, Some, length, map, refl, sym, ap, ◌∙◌, arith}
use Rattle.std.proofs.Common.{append_assoc, append-nil}
use Rattle.std.proofs.lemmas.List.{map-append}
use Rattle.std.proofs.Math.Bool.{and-false}
use Rattle.unit_graph.specs.declared.places.NodePlace.{NodePlace}
use Rattle.unit_graph.specs.Sources.{Source}
use Rattle.unit_graph.specs.Links.{is_at, at_offset, or_here, number_from}
use Rattle.unit_graph.specs.Numbers.{number_in, row_moved, rows_at, rows_from}

-- ---- lists of nodes

pub rows-append : (k m : ℕ) (ss ts : List Source) → m ≡ k + length ss
    → rows_from k (ss ++ ts) ≡ rows_from k ss ++ rows_from m ts
unfolding rows_from
rows-append k m [] ts e = let same : k ≡ m = omega arith in ap (λ n. rows_from n ts) same
rows-append k m (s ∷ ss) ts e =
    let next : m ≡ (k + 1) + length ss = omega arith in
    ap (λ (rs : List NodePlace). rows_at k s.file s.at ++ rs) (rows-append (k + 1) m ss ts next)
    ∙ sym (append_assoc (rows_at k s.file s.at) (rows_from (k + 1) ss) (rows_from m ts))

pub rows-one : (k : ℕ) (s : Source) → rows_from k (s ∷ []) ≡ rows_at k s.file s.at
unfolding rows_from
rows-one k s = append-nil (rows_at k s.file s.at)

pub rows-none : (k : ℕ) → rows_from k [] ≡ []
unfolding rows_from
rows-none k = refl

-- ---- nodes that come later

row-moved : (c k m file : ℕ) (at : Option ℕ) → m ≡ k + c
    → rows_at m file at ≡ map (row_moved c) (rows_at k file at)
row-moved c k m file None e = refl
row-moved c k m file (Some at) e =
    ap (λ (j : ℕ). record { file = file; number = j; at = at } ∷ []) e

pub rows_moved : (c k m : ℕ) (ss : List Source) → m ≡ k + c
    → rows_from m ss ≡ map (row_moved c) (rows_from k ss)
unfolding rows_from
rows_moved c k m [] e = refl
rows_moved c k m (s ∷ ss) e =
    let next : m + 1 ≡ k + 1 + c = omega arith in
    ap (λ (rs : List NodePlace). rs ++ rows_from (m + 1) ss) (row-moved c k m s.file s.at e)
    ∙ ap (λ (rs : List NodePlace). map (row_moved c) (rows_at k s.file s.at) ++ rs)
    (rows_moved c (k + 1) (m + 1) ss next)
    ∙ sym (map-append (row_moved c) (rows_at k s.file s.at) (rows_from (k + 1) ss))

-- ---- numbers

pub not_here : (k : ℕ) (o : Option ℕ) → or_here k false o ≡ o
not_here k None = refl
not_here k (Some n) = refl

row_here : (p : ℕ × ℕ) (k file : ℕ) (at : Option ℕ) (rest : List NodePlace) → number_in p
    (rows_at k file at ++ rest) ≡ or_here k (file == p.0 && at_offset p.1 at) (number_in p rest)
row_here p k file None rest = sym (ap (λ (b : Bool). or_here k b (number_in p rest))
    (and-false (file == p.0)) ∙ not_here k (number_in p rest))
row_here p k file (Some a) rest = refl

pub numbers : (p : ℕ × ℕ) (k : ℕ) (ss : List Source)
    → number_in p (rows_from k ss) ≡ number_from p k ss
unfolding rows_from
numbers p k [] = refl
numbers p k (s ∷ ss) = row_here p k s.file s.at (rows_from (k + 1) ss)
    ∙ ap (or_here k (is_at p s)) (numbers p (k + 1) ss)
