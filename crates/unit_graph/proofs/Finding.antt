-- Looking for a tag in one unit after the other.
use Rattle.std.proofs.Common.{◌≡◌, ℕ, ◌+◌, ◌<◌, ◌≤◌, ◌==◌, ◌&&◌, nat_le, nat_lt, Bool, true, false}
use Rattle.std.proofs.Common.{List, [], ◌∷◌, length, drop, get_or, Option, None, Some, Result, Ok}
use Rattle.std.proofs.Common.{Err, if◌then◌else◌, refl, sym, ap, ◌∙◌, arith}
use Rattle.std.proofs.lemmas.Bool.{le-leb, lt-ltb, eqb-true}
use Rattle.std.proofs.lemmas.List.{drop_more, drop_all}
use Rattle.std.proofs.lemmas.List.Elements.{All-head, All-tail}
use Rattle.elf_sections.specs.Sections.{section_bytes}
use Rattle.elf_sections.specs.declared.fault.Kind.TheVariants.{Abbrev as AbbrevSection}
use Rattle.dwarf_abbrev.specs.Declarations.{Declaration}
use Rattle.dwarf_abbrev.specs.Table.{table_at}
use Rattle.dwarf_abbrev.specs.declared.fault.AbbrevFault.{AbbrevFault}
use Rattle.entry_tree.specs.Items.{Given}
use Rattle.entry_tree.specs.Rising.{StandIn}
use Rattle.entry_tree.specs.Walks.{entries_of}
use Rattle.entry_tree.proofs.Rising.{entries_placed}
use Rattle.c_types.specs.Types.{types_of_unit_of}
use Rattle.unit_graph.specs.Sources.{FileUnit}
use Rattle.unit_graph.specs.Tags.{tag_in, entries_by, entries_in, is_read, tag_at, or_later, tag_of}
use Rattle.unit_graph.specs.Unread.{lies_in}

one_unit : (file to : ℕ) (units : List FileUnit) (i : ℕ) (u : FileUnit) → i < length units
    → u ≡ get_or units i u → tag_of file to (drop i units)
    ≡ or_later (tag_at file to u) (tag_of file to (drop (i + 1) units))
unfolding tag_of
one_unit file to units i u lt is = let d : drop i units ≡ u ∷ drop (i + 1) units =
    drop_more units i u lt ∙ ap (λ (x : FileUnit). x ∷ drop (i + 1) units) (sym is) in rw d refl

pub tag_found : (file to : ℕ) (units : List FileUnit) (i : ℕ) (u : FileUnit) (tag total : ℕ)
    → i < length units → u ≡ get_or units i u → Some tag ≡ tag_at file to u
    → tag_of file to (drop i units) ≡ total → tag ≡ total
tag_found file to units i u tag total lt is found h =
    sym (sym h ∙ one_unit file to units i u lt is
    ∙ ap (λ (o : Option ℕ). or_later o (tag_of file to (drop (i + 1) units))) (sym found))

pub tag_later : (file to : ℕ) (units : List FileUnit) (i : ℕ) (u : FileUnit) (total : ℕ)
    → i < length units → u ≡ get_or units i u → None ≡ tag_at file to u
    → tag_of file to (drop i units) ≡ total → tag_of file to (drop (i + 1) units) ≡ total
tag_later file to units i u total lt is found h =
    sym (one_unit file to units i u lt is
    ∙ ap (λ (o : Option ℕ). or_later o (tag_of file to (drop (i + 1) units))) (sym found)) ∙ h

pub no_tag : (file to : ℕ) (units : List FileUnit) (i total : ℕ) → length units ≤ i
    → tag_of file to (drop i units) ≡ total → 0 ≡ total
unfolding tag_of
no_tag file to units i total le h = sym (sym h ∙ ap (tag_of file to) (drop_all i units le))

-- ---- an offset that doesn't lie in a unit

module _ (first end to : ℕ) (out : (nat_le first to && nat_lt to end) ≡ false) where
  not_at : (at : ℕ) → first ≤ at → at < end → (at == to) ≡ false
  not_at at low high = by (at == to) refl
    where
      by : (b : Bool) → (at == to) ≡ b → b ≡ false
      by false is = refl
      by true is =
          let e : at ≡ to = eqb-true at to is in
          let low_to : nat_le first to ≡ true = le-leb first to (omega (arith, low, e)) in
          let high_to : nat_lt to end ≡ true = lt-ltb to end (omega (arith, high, e)) in
          absurd (cc)

  none_in : (es : List Given) → StandIn first end es → tag_in to es ≡ None
  none_in [] h = refl
  none_in (e ∷ es) h =
      let here = All-head (λ (g : Given). (first ≤ g.at) × (g.at < end)) e es h in
      rw (not_at e.at here.0 here.1)
      (none_in es (All-tail (λ (g : Given). (first ≤ g.at) × (g.at < end)) e es h))

none_by : (u : FileUnit) (to : ℕ) → lies_in to u.unit ≡ false
    → (r : Result (List Declaration) AbbrevFault) → tag_in to (entries_by u r) ≡ None
none_by u to out (Err f) = refl
none_by u to out (Ok ds) = none_in u.unit.first u.unit.end to out
    (entries_of u.bytes u.unit ds).entries (entries_placed u.bytes u.unit ds).1

either_none : (b : Bool) (o : Option ℕ) → o ≡ None → (if b then o else None) ≡ None
either_none true o e = e
either_none false o e = refl

pub tag_outside : (file to : ℕ) (u : FileUnit) → lies_in to u.unit ≡ false → None ≡ tag_at file to u
tag_outside file to u out =
    sym (either_none (u.file == file && is_read (types_of_unit_of u.bytes u.unit))
    (tag_in to (entries_in u))
    (none_by u to out (table_at (section_bytes AbbrevSection u.bytes) u.unit.abbrev_at)))
