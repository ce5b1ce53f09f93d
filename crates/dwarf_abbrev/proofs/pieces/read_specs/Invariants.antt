use Rattle.std.proofs.Common.{◌≡◌, ℕ, ◌-◌, ◌++◌, List, length}
use Rattle.dw_base.specs.Collect.{collect}
use Rattle.dwarf_abbrev.specs.Table.{spec_at, specs_of}
use Rattle.dwarf_abbrev.specs.declared.spec.Spec.{Spec}
use Rattle.dwarf_abbrev.specs.declared.fault.AbbrevFault.TheVariants.{AbbrevTruncated}
use Rattle.dwarf_abbrev.proofs.pieces.read_specs.Given as goal

abbrev pub invariant-loop : goal.invariant-loop
invariant-loop l = (more : List Spec) × (l.specs.items ≡ l.fn.specs.items ++ more)
    × (collect (λ (place : ℕ) (seen : List Spec). spec_at l.bytes l.start place)
    (λ (place : ℕ). AbbrevTruncated l.start) (length l.bytes - l.counter) l.at more
    ≡ specs_of l.bytes l.start l.initial.at)
