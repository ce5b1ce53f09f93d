-- What the types of a unit are read in: its sections, the version of its header, and all its
-- entries.
use Rattle.std.specs.Prelude.{ℕ, List}
use Rattle.dwarf_abbrev.specs.Declarations.{Declaration}
use Rattle.dwarf_forms.specs.Meanings.{Sections, sections}
use Rattle.entry_tree.specs.Items.{Given}
use Rattle.entry_tree.specs.Contexts.{sections_of}
use Rattle.entry_tree.specs.Walks.{entries_of}
use Rattle.entry_tree.specs.declared.unit.Unit.{Unit}
use Rattle.type_attributes.specs.declared.scope.UnitCtx.{UnitCtx}

pub record Scope : Type 0 where
  pub sections : Sections
  pub version : ℕ
  pub entries : List Given

-- of a unit of a file, given its abbreviations and where its indices into .debug_str_offsets count
-- from
abbrev pub scope_of : List ℕ → Unit → List Declaration → ℕ → Scope
scope_of file unit declarations str_base =
    record {
      sections = sections_of file unit str_base;
      version = unit.version;
      entries = (entries_of file unit declarations).entries;
    }

-- as a reader has it
abbrev pub scope : UnitCtx → Scope
scope c = record { sections = sections c.form; version = c.version; entries = c.start.entries }
