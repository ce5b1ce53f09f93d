-- Rows whose attributes and runs lie in one vector each, and one row more.
use Rattle.std.proofs.Common.{◌≡◌, ℕ, suc, ◌+◌, ◌-◌, ◌≤◌, ◌⊎◌, List, [], ◌∷◌, ◌++◌, length}
use Rattle.std.proofs.Common.{take, drop, slice_get, slice_range, Option, None, Some, Result}
use Rattle.std.proofs.Common.{Ok, refl, sym, ap, subst}
use Rattle.std.proofs.Common.{◌∙◌, arith, inl, inr, length-append, length-drop}
use Rattle.std.proofs.lemmas.List.{take_all, drop_all, drop-append-le, take-append-le, map_push}
use Rattle.std.proofs.lemmas.List.{length_push}
use Rattle.std.proofs.lemmas.List.Sums.{sum_by_push}
use Rattle.dwarf_abbrev.specs.Declarations.{Declaration, parts_of}
use Rattle.dwarf_abbrev.specs.Rows.{declaration_of, declarations_of, IsRow, AreRows, GivesHead}
use Rattle.dwarf_abbrev.specs.Rows.{with_specs}
use Rattle.dwarf_abbrev.specs.ValueMaps.{IsMapOf}
use Rattle.dwarf_abbrev.specs.declared.fault.AbbrevFault.{AbbrevFault}
use Rattle.dwarf_abbrev.specs.declared.row.Head.{Head}
use Rattle.dwarf_abbrev.specs.declared.row.Row.{Row}
use Rattle.dwarf_abbrev.specs.declared.runs.FixedRun.{FixedRun}
use Rattle.dwarf_abbrev.specs.declared.spec.Spec.{Spec}
use Rattle.dwarf_abbrev.proofs.Mapping.{pushed}

-- a part before what was put behind, and what was put behind
pub part_before : {X : Type 0} (xs more : List X) (a b : ℕ) → a ≤ b → b ≤ length xs
    → slice_range (xs ++ more) a b ≡ slice_range xs a b
part_before xs more a b le inside =
    let room : b - a ≤ length (drop a xs) = omega (arith, length-drop a xs) in
    ap (take (b - a)) (drop-append-le a xs more (omega arith))
    ∙ take-append-le (b - a) (drop a xs) more room

part_behind : {X : Type 0} (xs more : List X) (n : ℕ) → n ≡ length xs → drop n (xs ++ more) ≡ more
part_behind xs more n is =
    drop-append-le n xs more (omega arith)
    ∙ ap (λ ys. ys ++ more) (drop_all n xs (omega arith))

pub part_last : {X : Type 0} (xs more : List X) (a b : ℕ) → a ≡ length xs → b ≡ a + length more
    → slice_range (xs ++ more) a b ≡ more
part_last xs more a b is end =
    ap (take (b - a)) (part_behind xs more a is) ∙ take_all (b - a) more (omega arith)

-- the declarations of rows stay
same_declarations : (specs more : List Spec) (rows : List Row)
    → ((i : ℕ) (r : Row) → slice_get rows i ≡ Some r → (r.from ≤ r.to) × (r.to ≤ length specs))
    → declarations_of (specs ++ more) rows ≡ declarations_of specs rows
same_declarations specs more [] inside = refl
same_declarations specs more (r ∷ rs) inside =
    let here = inside 0 r refl in
    rw (
      part_before specs more r.from r.to here.0 here.1,
      same_declarations specs more rs (λ i x h. inside (suc i) x h),
    ) refl

-- one row more
pub declarations_push : (specs more : List Spec) (runs : List FixedRun) (rows : List Row) (r : Row)
    → AreRows specs runs rows → r.from ≡ length specs → r.to ≡ r.from + length more
    → declarations_of (specs ++ more) (rows ++ r ∷ []) ≡ declarations_of specs rows
    ++ record { code = r.code; tag = r.tag; children = r.children; specs = more } ∷ []
declarations_push specs more runs rows r are from to =
    map_push (declaration_of (specs ++ more)) rows r
    ∙ rw (
      same_declarations specs more rows
          (λ i x h. ((are.each i x h).ordered, (are.each i x h).inside)),
      part_last specs more r.from r.to from to,
    ) refl

pub rows_push : (specs more : List Spec) (runs behind : List FixedRun) (rows : List Row) (r : Row)
    → AreRows specs runs rows → r.from ≡ length specs → r.to ≡ r.from + length more
    → IsMapOf more behind r.slots → AreRows (specs ++ more) (runs ++ behind) (rows ++ r ∷ [])
rows_push specs more runs behind rows r are from to mapped =
    record {
      each = λ i x h. each i x (pushed rows r i x h);
      count = omega (
        arith,
        are.count,
        mapped.all.1,
        length-append specs more,
        length-append runs behind,
        length_push rows r,
      );
      parts = ap parts_of (declarations_push specs more runs rows r are from to)
          ∙ sum_by_push (λ (d : Declaration). suc (length d.specs)) (declarations_of specs rows) last
          ∙ omega (arith, are.parts, length-append specs more, length_push rows r);
    }
  where
    last : Declaration
    last = record { code = r.code; tag = r.tag; children = r.children; specs = more }

    each : (i : ℕ) (x : Row) → (slice_get rows i ≡ Some x) ⊎ ((i ≡ length rows) × (r ≡ x))
        → IsRow (specs ++ more) (runs ++ behind) i x
    each i x (inl h) = let o = are.each i x h in
        record {
          ordered = o.ordered;
          inside = omega (arith, o.inside, length-append specs more);
          within = omega (arith, o.within, length-append runs behind);
          mapped = rw (
            part_before specs more x.from x.to o.ordered o.inside,
            part_before runs behind (x.from + i) (x.to + i + 1) (omega (arith, o.ordered)) o.within,
          ) o.mapped;
        }
    each i x (inr h) = rw (h.0, sym h.1) record {
      ordered = omega arith;
      inside = omega (arith, length-append specs more);
      within = omega (arith, are.count, mapped.all.1, length-append runs behind);
      mapped = rw (
        part_last specs more r.from r.to from to,
        part_last runs behind (r.from + length rows) (r.to + length rows + 1)
            (omega (arith, are.count)) (omega (arith, mapped.all.1)),
      ) mapped;
    }

pub no_rows : AreRows [] [] []
no_rows = record { each = λ i r h. cc; count = refl; parts = refl }

-- what reading the begin of an abbreviation gives, by what was found
pub none_read : (old new : List Spec) (found : Option Head) (after : ℕ)
    (read : Result (Option Declaration × ℕ) AbbrevFault) → found ≡ None
    → GivesHead old new (Ok (found, after)) read → (new ≡ old) × (read ≡ Ok (None, after))
none_read old new None after read is gives = gives
none_read old new (Some h) after read is gives = cc

pub some_read : (old new : List Spec) (found : Option Head) (after : ℕ)
    (read : Result (Option Declaration × ℕ) AbbrevFault) (h : Head) → found ≡ Some h
    → GivesHead old new (Ok (found, after)) read
    → (more : List Spec) × (new ≡ old ++ more) × (read ≡ Ok (Some (with_specs h more), after))
some_read old new None after read h is gives = cc
some_read old new (Some x) after read h is gives = let same : x ≡ h = cc in
    subst (λ (y : Head). (more : List Spec) × (new ≡ old ++ more)
    × (read ≡ Ok (Some (with_specs y more), after))) same gives
