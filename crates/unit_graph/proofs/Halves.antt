-- The units in pieces, and their nodes.
use Rattle.std.proofs.Common.{◌≡◌, ℕ, ◌+◌, ◌≤◌, List, [], ◌∷◌, ◌++◌, length, take, drop, Result, Ok}
use Rattle.std.proofs.Common.{Err, refl, sym, ap, ◌∙◌, arith, append-nil, append_assoc}
use Rattle.std.proofs.Common.{length-append}
use Rattle.std.proofs.lemmas.List.{take-append-drop, length-take-le}
use Rattle.type_attributes.specs.declared.source.UnitTypes.{UnitTypes}
use Rattle.type_attributes.specs.declared.fault.TypeFault.{TypeFault}
use Rattle.c_types.specs.Types.{types_of_unit_of}
use Rattle.unit_graph.specs.Sources.{Source, FileUnit, UnitRefusal, sources_of, joined, gathered}
use Rattle.unit_graph.specs.Pieces.{Read, behind, read_before, reads, both, glued, glue}
use Rattle.unit_graph.specs.Pieces.{sources_from}

behind-nil : (r : Result (List Read) UnitRefusal) → r ≡ behind [] r
behind-nil (Err e) = refl
behind-nil (Ok rs) = refl

behind-behind : (xs ys : List Read) (r : Result (List Read) UnitRefusal)
    → behind xs (behind ys r) ≡ behind (xs ++ ys) r
behind-behind xs ys (Err e) = refl
behind-behind xs ys (Ok zs) = ap (λ (v : List Read). Ok v) (sym (append_assoc xs ys zs))

-- two pieces
before-both : (file unit : ℕ) (r : Result UnitTypes TypeFault) (s t : Result (List Read)
    UnitRefusal) → read_before file unit r (both s t) ≡ both (read_before file unit r s) t
before-both file unit (Err f) s t = refl
before-both file unit (Ok v) (Err e) t = refl
before-both file unit (Ok v) (Ok rs) (Err e) = refl
before-both file unit (Ok v) (Ok rs) (Ok ss) = refl

pub reads-append : (k m : ℕ) (us vs : List FileUnit) → m ≡ k + length us
    → reads k (us ++ vs) ≡ both (reads k us) (reads m vs)
unfolding reads
reads-append k m [] vs e = let same : k ≡ m = omega arith in
    ap (λ n. reads n vs) same ∙ behind-nil (reads m vs)
reads-append k m (u ∷ us) vs e =
    let next : m ≡ (k + 1) + length us = omega arith in
    ap (read_before u.file k (types_of_unit_of u.bytes u.unit)) (reads-append (k + 1) m us vs next)
    ∙ before-both u.file k (types_of_unit_of u.bytes u.unit) (reads (k + 1) us) (reads m vs)

pub reads_halves : (k m n : ℕ) (us : List FileUnit) → n ≤ length us → m ≡ k + n
    → reads k us ≡ both (reads k (take n us)) (reads m (drop n us))
reads_halves k m n us le e =
    let long : length (take n us) ≡ n = length-take-le n us le in
    let at : m ≡ k + length (take n us) = omega (arith, long) in
    ap (reads k) (sym (take-append-drop n us)) ∙ reads-append k m (take n us) (drop n us) at

-- the nodes of all units are those of the units that are read
joined-same : (file unit : ℕ) (seen : List Source) (r : Result UnitTypes TypeFault)
    (f g : List Source → Result (List Source) UnitRefusal) → ((more : List Source)
    → f more ≡ g more) → joined file unit seen r f ≡ joined file unit seen r g
joined-same file unit seen (Err e) f g same = refl
joined-same file unit seen (Ok t) f g same = same (seen ++ sources_of file (length seen) t)

joined-glue : (file unit : ℕ) (seen : List Source) (r : Result UnitTypes TypeFault)
    (rest : Result (List Read) UnitRefusal)
    → joined file unit seen r (λ more. glue more rest) ≡ glue seen (read_before file unit r rest)
unfolding glued
joined-glue file unit seen (Err f) rest = refl
joined-glue file unit seen (Ok t) (Err e) = refl
joined-glue file unit seen (Ok t) (Ok rs) = refl

pub gathered_glue : (unit : ℕ) (seen : List Source) (us : List FileUnit)
    → gathered unit seen us ≡ glue seen (reads unit us)
unfolding gathered reads glued
gathered_glue unit seen [] = refl
gathered_glue unit seen (u ∷ us) =
    let r = types_of_unit_of u.bytes u.unit in
    joined-same u.file unit seen r (λ more. gathered (unit + 1) more us)
    (λ more. glue more (reads (unit + 1) us)) (λ more. gathered_glue (unit + 1) more us)
    ∙ joined-glue u.file unit seen r (reads (unit + 1) us)

-- ---- nodes of units

pub sources-append : (n : ℕ) (rs qs : List Read) → sources_from n (rs ++ qs)
    ≡ sources_from n rs ++ sources_from (n + length (sources_from n rs)) qs
unfolding sources_from
sources-append n [] qs = let e : n ≡ n + 0 = omega arith in ap (λ m. sources_from m qs) e
sources-append n (r ∷ rs) qs =
    let own = sources_of r.file n r.found in
    let m = n + length own in
    let size : length (own ++ sources_from m rs) ≡ length own + length (sources_from m rs) =
    length-append own (sources_from m rs) in
    let e : m + length (sources_from m rs) ≡ n + length (own ++ sources_from m rs) =
    omega (arith, size) in
    ap (λ (ss : List Source). own ++ ss) (sources-append m rs qs
    ∙ ap (λ k. sources_from m rs ++ sources_from k qs) e) ∙ sym (append_assoc own
    (sources_from m rs) (sources_from (n + length (own ++ sources_from m rs)) qs))

pub sources-one : (n : ℕ) (r : Read) → sources_from n (r ∷ []) ≡ sources_of r.file n r.found
unfolding sources_from
sources-one n r = append-nil (sources_of r.file n r.found)

pub sources-none : (n : ℕ) → sources_from n [] ≡ []
unfolding sources_from
sources-none n = refl

pub glued_all : (seen : List Source) (rs : List Read)
    → glued seen rs ≡ seen ++ sources_from (length seen) rs
unfolding glued sources_from
glued_all seen [] = sym (append-nil seen)
glued_all seen (r ∷ rs) =
    let own = sources_of r.file (length seen) r.found in
    let size : length (seen ++ own) ≡ length seen + length own = length-append seen own in
    glued_all (seen ++ own) rs ∙ ap (λ k. (seen ++ own) ++ sources_from k rs) size
    ∙ append_assoc seen own (sources_from (length seen + length own) rs)
