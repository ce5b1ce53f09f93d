use Rattle.std.proofs.Common.{◌≡◌, ◌-◌, length, []}
use Rattle.dw_base.specs.Collect.{collect}
use Rattle.dwarf_abbrev.specs.Table.{declaration_at}
use Rattle.dwarf_abbrev.specs.Rows.{declarations_of, IsPlaced, AreRows}
use Rattle.dwarf_abbrev.specs.declared.fault.AbbrevFault.TheVariants.{AbbrevTruncated}
use Rattle.dwarf_abbrev.proofs.abbrevs.read_table.Given as goal

abbrev pub invariant-loop : goal.invariant-loop
invariant-loop l = record {
  placed : IsPlaced (declarations_of l.specs.items l.rows.items) l.others;
  laid : AreRows l.specs.items l.runs.items l.rows.items;
  so_far : collect (declaration_at l.bytes) AbbrevTruncated (length l.bytes - l.counter) l.at
      (declarations_of l.specs.items l.rows.items)
      ≡ collect (declaration_at l.bytes) AbbrevTruncated (length l.bytes) l.initial.at [];
}
