-- Tables of abbreviations that units of one file share.
use Rattle.std.specs.Prelude.{ℕ, ◌≡◌, List, All}
use Rattle.c_types.specs.Tables.{IsTableAt}
use Rattle.unit_graph.specs.Sources.{FileUnit}
use Rattle.unit_graph.specs.declared.tables.KeptTable.{KeptTable}
use Rattle.unit_graph.specs.declared.tables.KeptTables.{KeptTables}

-- the bytes of each unit are those of the file of its number
abbrev pub AreOf : (ℕ → List ℕ) → List FileUnit → Type 0
AreOf files us = All (λ (u : FileUnit). u.bytes ≡ files u.file) us

-- units of one number are of one file
abbrev pub AreOfFiles : List FileUnit → Type 0
AreOfFiles us = (files : ℕ → List ℕ) × AreOf files us

-- each table is what the .debug_abbrev of a file spells at its place
abbrev pub AreTablesOf : List ℕ → List KeptTable → Type 0
AreTablesOf bytes tables = All (λ (t : KeptTable). IsTableAt bytes t.at t.abbrevs) tables

-- the tables that are kept are those of each unit of their file
abbrev pub AreKept : List FileUnit → KeptTables → Type 0
AreKept us kept =
    All (λ (u : FileUnit). kept.file ≡ u.file → AreTablesOf u.bytes kept.tables.items) us
