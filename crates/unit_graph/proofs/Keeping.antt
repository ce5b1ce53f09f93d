-- The tables of abbreviations that are kept.
use Rattle.std.proofs.Common.{◌≡◌, ℕ, ◌<◌, List, [], length, get_or, sym, ap, subst}
use Rattle.std.proofs.Common.{◌∙◌}
use Rattle.std.proofs.lemmas.List.Elements.{All-get_or, All-nil}
use Rattle.c_types.specs.Tables.{IsTableAt}
use Rattle.unit_graph.specs.Sources.{FileUnit}
use Rattle.unit_graph.specs.Tables.{AreOf, AreOfFiles, AreTablesOf, AreKept}
use Rattle.unit_graph.specs.declared.tables.KeptTable.{KeptTable}
use Rattle.unit_graph.specs.declared.tables.KeptTables.{KeptTables}

own_file : (files : ℕ → List ℕ) (us : List FileUnit) (i : ℕ) (u : FileUnit) → i < length us
    → u ≡ get_or us i u → AreOf files us → u.bytes ≡ files u.file
own_file files us i u lt is all = subst (λ (v : FileUnit). v.bytes ≡ files v.file) (sym is)
    (All-get_or (λ (v : FileUnit). v.bytes ≡ files v.file) us i u lt all)

-- the tables that are kept are those of a unit of their file
pub lent : (us : List FileUnit) (i : ℕ) (u : FileUnit) (k : KeptTables) → i < length us
    → u ≡ get_or us i u → AreKept us k → k.file ≡ u.file → AreTablesOf u.bytes k.tables.items
lent us i u k lt is h = subst (λ (v : FileUnit). k.file ≡ v.file
    → AreTablesOf v.bytes k.tables.items) (sym is) (All-get_or
    (λ (v : FileUnit). k.file ≡ v.file → AreTablesOf v.bytes k.tables.items) us i u lt h)

-- and those of a unit are tables to keep
pub kept : (us : List FileUnit) (i : ℕ) (u : FileUnit) (k : KeptTables) → i < length us
    → u ≡ get_or us i u → AreOfFiles us → k.file ≡ u.file
    → AreTablesOf u.bytes k.tables.items → AreKept us k
kept us i u k lt is of file tables = λ j d within (e : k.file ≡ (get_or us j d).file).
    subst (λ (b : List ℕ). AreTablesOf b k.tables.items)
    (own_file of.0 us i u lt is of.1 ∙ ap of.0 (sym file ∙ e) ∙ sym (of.1 j d within)) tables

-- so are none
pub none_kept : (us : List FileUnit) (k : KeptTables) → k.tables.items ≡ [] → AreKept us k
none_kept us k none = λ j d within (e : k.file ≡ (get_or us j d).file).
    subst (λ (l : List KeptTable). AreTablesOf (get_or us j d).bytes l) (sym none)
    (All-nil (λ (t : KeptTable). IsTableAt (get_or us j d).bytes t.at t.abbrevs))
